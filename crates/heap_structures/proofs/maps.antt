pub mod MapCalls
