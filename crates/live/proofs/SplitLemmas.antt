-- A board tells it if the desks agree on another entry than it heard.
use Rattle.std.proofs.Common.{◌≡◌, ℕ, true, List, [], ◌∷◌, ◌++◌, ap, ◌∙◌, inl, inr}
use Rattle.agree_core.specs.declared.messages.{DeskId.DeskId, Message.Message, Vote.Vote}
use Rattle.agree_core.specs.declared.messages.DeskId.TheVariants.{A, B}
use Rattle.cards.specs.Sheet.{Sheet}
use Rattle.wire.specs.Layout.{Says}
use Rattle.wire.specs.declared.what.What.{What}
use Rattle.wire.proofs.MessageLemmas.{place_of}
use Rattle.std.specs.Prelude.{Result}
use Rattle.board.specs.Rounds.{parts}
use Rattle.board.specs.declared.refusal.BoardRefusal.{BoardRefusal}
use Rattle.board.proofs.Recalling.{parts_recalled}
use Rattle.board.proofs.Splits.{splits_are_seen}
use Rattle.live.specs.Boards.{BoardTurn, Given, Parted, TurnStep}
use Rattle.live.specs.Splits.{SplitsAreTold}
use Rattle.station_texts.specs.Notices.{is_stopped}
use Rattle.station_texts.specs.declared.notices.Notice.{Notice}

module _ (sheet : Sheet) (game innings : ℕ) (k l : BoardTurn) (v : Vote) (bytes : List ℕ) (out : List Message) (says : Says game bytes (Message.Vote v))
    (parted : parts k.memory.rounds v ≡ true) where
  not_given : (answer : Result What BoardRefusal) → TurnStep sheet game innings k (Given bytes answer) out l → ⊥
  not_given answer step = let none = step.0.2 (Message.Vote v) says in let is = parts_recalled v k.memory.rounds in cc (none, parted, is)

  told : (back : List ℕ) → TurnStep sheet game innings k (Parted bytes back) out l → (l.notices ≡ k.notices ++ Notice.Parted v.place ∷ []) × (is_stopped l.memory.telling ≡ true)
  told back step = (
    ap (λ (t : BoardTurn). t.notices) step.2 ∙ ap (λ (n : ℕ). k.notices ++ Notice.Parted n ∷ []) (place_of game bytes (Message.Vote v) says),
    ap (λ (t : BoardTurn). is_stopped t.memory.telling) step.2,
  )

pub splits_are_told : SplitsAreTold
splits_are_told = λ sheet game innings place round other e f k heard is n.
    let vote : DeskId → Vote = λ d. record { desk = d; place = place; round = other; entry = f } in
    elim (splits_are_seen k.memory.rounds place round other e f heard is n) [
      | inl p ↦ (A, λ bytes out l says. (not_given sheet game innings k l (vote A) bytes out says p, told sheet game innings k l (vote A) bytes out says p))
      | inr p ↦ (B, λ bytes out l says. (not_given sheet game innings k l (vote B) bytes out says p, told sheet game innings k l (vote B) bytes out says p))
    ]
