pub mod Logic
pub mod Answer
pub mod Sentences
pub mod Results
