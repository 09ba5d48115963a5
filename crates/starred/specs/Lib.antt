-- Document 01's starred cases as one table, and tests for the equations in its rows.
pub mod Same
pub mod Table
