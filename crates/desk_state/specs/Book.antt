-- The items of a book for a page: each with its place, its line, and the place of the entry that corrects it. Players are given
-- by their numbers; the names are in `sides`.
use Rattle.std.specs.Prelude.{ℕ, ◌+◌, ◌-◌, ◌==◌, nat_lt, if◌then◌else◌, List, [], ◌∷◌, ◌++◌, Option, Some, None, length, drop, slice_get, codes}
use Rattle.notation.specs.declared.entry.{Ball.Ball, Entry.Entry, Plain.Plain}
use Rattle.notation.specs.declared.entry.Entry.TheVariants.{Write, Fix, Late}
use Rattle.notation.specs.Written.{text_of}
use Rattle.ball_laws.specs.History.{History}
use Rattle.ball_laws.specs.Laws.{state_after}
use Rattle.corrections.specs.declared.placed.Placed.{Placed}
use Rattle.corrections.specs.CleanList.{clean_items_of}
use Rattle.cards.specs.Marks.{mark_of}
use Rattle.json.specs.Json.{Json, null}
use Rattle.json.specs.Tree.{json_tokens}
use Rattle.json.specs.Print.{print}
use Rattle.json_fields.specs.Values.{Field, array_of, object_of, number_field, text_field}
use Rattle.over_numbers.specs.declared.count.Count.{Count}
use Rattle.over_numbers.specs.Counts.{counted}
use Rattle.corrections.specs.Corrected.{corrected_at}

-- ---- an item, by the count of the match before it and the batter at the end that is bowled to

abbrev pub number_or_null : List ℕ → Option ℕ → Field
number_or_null name None = (name, null)
number_or_null name (Some n) = number_field name n

-- the innings of a delivery, its over and its number in that over, each from 1
abbrev pub number_fields : Count → List Field
number_fields c =
    number_field (codes "innings") c.begun ∷ []
    ++ number_field (codes "over") (c.overs + 1) ∷ []
    ++ number_field (codes "ball") (c.balls + 1) ∷ []

-- the batter who faces it, if there is one, and the bowler
abbrev pub player_fields : Option ℕ → Ball → List Field
player_fields striker b = number_or_null (codes "batter") striker ∷ [] ++ number_field (codes "bowler") b.bowler ∷ []

abbrev pub mark_field : Ball → Field
mark_field b = text_field (codes "mark") (mark_of b)

abbrev pub ball_fields : Count → Option ℕ → Ball → List Field
ball_fields c striker b = number_fields c ++ player_fields striker b ++ mark_field b ∷ []

-- the fields that only a delivery has
abbrev pub own_fields : Count → Option ℕ → Plain → List Field
own_fields c striker (Plain.Ball b) = ball_fields c striker b
own_fields c striker x = []

-- an item with its place, and the place of the entry that corrects it
abbrev pub item_value : Count → Option ℕ → Option ℕ → ℕ → Plain → Json
item_value c striker by place x =
    object_of (number_field (codes "place") place ∷ []
    ++ text_field (codes "line") (text_of (Write x)) ∷ []
    ++ own_fields c striker x
    ++ number_or_null (codes "by") by ∷ [])

-- ---- a book

-- the value of each item, after the history of those before it
abbrev pub values_behind : (History → Placed → Json) → History → List Placed → List Json
values_behind value h [] = []
values_behind value h (x ∷ xs) = value h x ∷ values_behind value (x.item ∷ h) xs

abbrev pub value_in : List Entry → History → Placed → Json
value_in book h x = item_value (counted h) (state_after h).ends.striker (corrected_at book x.place) x.place x.item

-- all items of a book, in the order of the match
abbrev pub book_items : List Entry → List Json
book_items book = values_behind (value_in book) [] (clean_items_of book)

abbrev pub entries_field : List Entry → Field
entries_field book = number_field (codes "entries") (length book)

abbrev pub book_value : List Entry → Json
book_value book = object_of (entries_field book ∷ [] ++ (codes "items", array_of (book_items book)) ∷ [])

-- its text, as the library writes it, and a newline
abbrev pub book_text : List Entry → List ℕ
book_text book = print (json_tokens (book_value book)) ++ codes "\n"

-- ---- the news of a book

-- the place of the item that an entry at place p writes, adds or changes
abbrev pub touched_at : ℕ → Entry → ℕ
touched_at p (Write x) = p
touched_at p (Fix q x) = q
touched_at p (Late q x) = p

-- the index of the item with place p, or the number of items if there is none
abbrev pub index_of : ℕ → List Placed → ℕ
index_of p [] = 0
index_of p (x ∷ xs) = if x.place == p then 0 else index_of p xs + 1

-- the index of the first item that the newest entry of a book may have changed: its own item, or the one that it corrects; the
-- items after it may have another striker or number
abbrev pub first_new : List Entry → Option Entry → ℕ
first_new book None = 0
first_new book (Some e) = index_of (touched_at (length book - 1) e) (clean_items_of book)

abbrev pub news_from : List Entry → ℕ
news_from book = first_new book (slice_get book (length book - 1))

-- the items from an index on; null if there are more than 64
abbrev pub items_from : ℕ → List Entry → Field
items_from n book =
    (codes "items", if nat_lt (n + 64) (length (clean_items_of book)) then null else array_of (drop n (book_items book)))

abbrev pub news_field : List Entry → Field
news_field book = (
  codes "news",
  object_of (entries_field book ∷ []
      ++ number_field (codes "from") (news_from book) ∷ []
      ++ items_from (news_from book) book ∷ []),
)
