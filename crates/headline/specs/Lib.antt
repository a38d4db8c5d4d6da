-- Laws, Headline, Besides and KeptVotes are the claims, over Runs and the votes Penned and Noted in them; Match is the Setting
-- of a match. Steps has a run's step: what desks (DeskSteps, DeskAnswers, Mishaps, DeskFaults, Migrations) and boards
-- (BoardSteps) do, answer (Answers) and are given (Given), in Configurations at Events.
pub mod Setting
pub mod Match
pub mod Events
pub mod Configurations
pub mod Answers
pub mod Given
pub mod DeskFaults
pub mod Migrations
pub mod DeskAnswers
pub mod Mishaps
pub mod DeskSteps
pub mod BoardSteps
pub mod Steps
pub mod Runs
pub mod Penned
pub mod Noted
pub mod KeptVotes
pub mod Headline
pub mod Besides
pub mod Laws
