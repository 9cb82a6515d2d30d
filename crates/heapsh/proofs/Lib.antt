mod WorkerSeats
