pub mod ScheduleCuts
pub mod LineTexts
pub mod ScheduleTexts
