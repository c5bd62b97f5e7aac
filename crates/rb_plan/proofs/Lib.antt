pub mod Cheapening
pub mod FirstOfGoal
pub mod RightAnswers
pub mod Serving
pub mod StepBetween
pub mod Walks
