mod MatchLeft
mod MatchLines
mod OnlineLemmas
mod TurnLemmas
mod VoteLists
