mod BlockLaws
mod LeftLaws
mod SampleLaws
