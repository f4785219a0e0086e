pub mod NoFloat
pub mod WholeNumbers
pub mod SurfaceText
pub mod Parts
pub mod OnLiterals
pub mod AnswerExamples
pub mod SpellingExamples
