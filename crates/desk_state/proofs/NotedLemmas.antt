-- A walk over the clean list gives the overs of the list with the newest item first.
use Rattle.std.proofs.Common.{arith, ◌≡◌, true, false, List, [], ◌∷◌, ◌++◌, length, reverse, refl, ap, ◌∙◌, sym, append_assoc, append-nil}
use Rattle.std.specs.Prelude.{◌==◌}
use Rattle.std.proofs.lemmas.List.{reverse-append}
use Rattle.notation.specs.declared.entry.Entry.{Entry}
use Rattle.corrections.specs.declared.placed.Placed.{Placed}
use Rattle.corrections.specs.CleanList.{clean_items_of}
use Rattle.desk_state.specs.declared.deliveries.Delivery.{Delivery}
use Rattle.desk_state.specs.Over.{over_shown, this_or_last}
use Rattle.desk_state.specs.inner.Items.{Noted, noted_behind, noted_of, none_noted}

-- the walk goes on from the items before
noted_all : (before xs : List Placed) → noted_behind (noted_of before) xs ≡ noted_of (reverse xs ++ before)
noted_all before [] = refl
noted_all before (x ∷ xs) =
    noted_all (x ∷ before) xs
    ∙ ap noted_of (sym (append_assoc (reverse xs) (x ∷ []) before) ∙ ap (λ ys. ys ++ before) (sym (reverse-append (x ∷ []) xs)))

pub noted_in_all : (xs : List Placed) → noted_behind none_noted xs ≡ noted_of (reverse xs)
noted_in_all xs = noted_all [] xs ∙ ap noted_of (append-nil (reverse xs))

-- this over, or the last one while this one is empty
last_chosen : (this last : List Delivery) → (length this == 0) ≡ true → last ≡ this_or_last this last
last_chosen [] last e = refl
last_chosen (d ∷ ds) last e = grind arith

this_chosen : (this last : List Delivery) → (length this == 0) ≡ false → this ≡ this_or_last this last
this_chosen [] last e = absurd cc
this_chosen (d ∷ ds) last e = refl

-- after all items of a book
noted_book : (book : List Entry) (items : List Placed) (s : Noted) → items ≡ clean_items_of book → s ≡ noted_behind none_noted items
    → this_or_last s.this s.last ≡ over_shown book
noted_book book items s all is =
    ap (λ (t : Noted). this_or_last t.this t.last) (is ∙ ap (noted_behind none_noted) all ∙ noted_in_all (clean_items_of book))

pub last_shown : (book : List Entry) (items : List Placed) (s : Noted) → items ≡ clean_items_of book → s ≡ noted_behind none_noted items
    → (length s.this == 0) ≡ true → s.last ≡ over_shown book
last_shown book items s all is none = last_chosen s.this s.last none ∙ noted_book book items s all is

pub this_shown : (book : List Entry) (items : List Placed) (s : Noted) → items ≡ clean_items_of book → s ≡ noted_behind none_noted items
    → (length s.this == 0) ≡ false → s.this ≡ over_shown book
this_shown book items s all is some = this_chosen s.this s.last some ∙ noted_book book items s all is
