mod Cut
