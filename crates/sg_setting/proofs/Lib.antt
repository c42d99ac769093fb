mod FreshPeers
mod Graphs
