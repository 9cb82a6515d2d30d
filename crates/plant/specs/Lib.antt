pub mod StoredReadings
