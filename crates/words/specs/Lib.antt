-- The paper's words: names and numbers of codes, addresses, interfaces, commands and outcomes.
pub mod Basics
pub mod Names
pub mod Outcomes
pub mod Reasons
