-- What a call answers is defined in the crates `gray_theory` and `capi`.

-- what private functions answer
pub mod Stages
