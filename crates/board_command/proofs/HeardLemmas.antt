-- When a board heard its desks, by what it was told that it heard.
use Rattle.std.proofs.Common.{◌≡◌, ◌∙◌, ℕ, List, [], ◌∷◌, ◌++◌, Option, Some, None, refl, sym, ap}
use Rattle.agree_core.specs.declared.messages.{DeskId.DeskId, Message.Message}
use Rattle.links.specs.Passed.{Passed}
use Rattle.live.specs.Hearings.{Hearing, Hears, hearing_of}
use Rattle.board_command.specs.Hearing.{board_begun, desk_of, heard_from, heard_in}
use Rattle.board_command.specs.declared.hearing.HeardAt.{HeardAt}

-- one more message was heard
heard_more : (old : HeardAt) (told : List Hearing) (h : Hearing) → heard_in old (told ++ h ∷ []) ≡ heard_from (desk_of h.message) (heard_in old told) h.at
heard_more old [] h = refl
heard_more old (x ∷ told) h = heard_more (heard_from (desk_of x.message) old x.at) told h

-- when it began stays
begun_stays : (desk : Option DeskId) (old : HeardAt) (now : ℕ) → (heard_from desk old now).begun ≡ old.begun
begun_stays None old now = refl
begun_stays (Some DeskId.A) old now = refl
begun_stays (Some DeskId.B) old now = refl

module _ (message : Message) (now : ℕ) (old : HeardAt) (told : List Hearing) {new : HeardAt} {tells : List Hearing} where
  -- the times follow one more message
  pub times_more : new ≡ heard_from (desk_of message) old now → tells ≡ told ++ hearing_of message now ∷ []
      → heard_in (board_begun new.begun) tells ≡ heard_from (desk_of message) (heard_in (board_begun old.begun) told) now
  times_more heard told_so =
      let begun : new.begun ≡ old.begun = ap (λ (h : HeardAt). h.begun) heard ∙ begun_stays (desk_of message) old now in
      rw (begun, told_so) (heard_more (board_begun old.begun) told (hearing_of message now))

  -- and so do those that it keeps
  pub follows_more : old ≡ heard_in (board_begun old.begun) told → new ≡ heard_from (desk_of message) old now
      → tells ≡ told ++ hearing_of message now ∷ [] → new ≡ heard_in (board_begun new.begun) tells
  follows_more follows heard told_so =
      heard ∙ ap (λ (h : HeardAt). heard_from (desk_of message) h now) follows ∙ sym (times_more heard told_so)

-- it was told what it heard, in an equal match with equal logs too
pub hears_so : {g h : ℕ} {p q m n : List Passed} {before after : List ℕ} {told tells heard hears : List Hearing}
    → h ≡ g → q ≡ p → n ≡ m → told ≡ heard → tells ≡ hears → Hears g p m before after heard hears → Hears h q n before after told tells
hears_so i j k l m heard = rw (i, j, k, l, m) heard
