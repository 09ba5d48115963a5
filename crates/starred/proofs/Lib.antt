-- Document 01's starred cases, proved of the list and the calls' definitions in a single go.
pub mod Table
