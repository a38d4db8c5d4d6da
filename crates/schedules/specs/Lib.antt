-- What is claimed: ScheduleLines and ScheduleFault. inner serves private functions only.
pub mod ScheduleFault
pub mod ScheduleLines
pub mod inner
