pub mod machine_tests
