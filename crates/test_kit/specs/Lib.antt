pub mod reference_runs
pub mod board_jobs
