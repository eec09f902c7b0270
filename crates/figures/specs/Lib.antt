-- What a block's figures are said by beside guideline's definitions of them: what its steps hand on, and the steps of its roots.
pub mod Parts
pub mod RootSteps
