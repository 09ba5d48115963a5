-- What private functions ask for and leave. What the writer of settings writes is in `lister_theory`.
pub mod Outputs
