mod Deliveries
