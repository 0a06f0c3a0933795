pub mod Said
pub mod Records
pub mod Remarks
pub mod Contents
pub mod Own
pub mod Numbers
pub mod steps
