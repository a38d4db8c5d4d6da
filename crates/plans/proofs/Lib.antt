pub mod StandingLemmas
pub mod DraftLemmas
pub mod BowlerLemmas
pub mod PlanLemmas
