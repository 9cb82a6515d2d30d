pub mod DrawnJobs
