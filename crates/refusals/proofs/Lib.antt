pub mod Loops
pub mod Numbers
pub mod RefusalLaws
pub mod SampleLaws
pub mod CallLaws
