-- What a line of a schedule says, for each event and each fault, and that an event's line says only that event.
use Rattle.std.proofs.Common.{◌≡◌, ℕ, ◌+◌, ◌≤◌, nat_lt, ◌<◌, ◌^◌, List, [], ◌∷◌, ◌++◌, length, take, true, Option, Some, None}
use Rattle.std.proofs.Common.{Result, Ok, Err, inl, inr, refl, sym, ap, subst, ◌∙◌, arith, codes, decimal, lit<, ne_eqb}
use Rattle.std.specs.List.{join_with_byte, list_all}
use Rattle.std.specs.Str.{bytes_eq, IsAscii, IsUtf8}
use Rattle.std.proofs.lemmas.Fmt.{decimal_digit, digits_decimal, digits_value-decimal, IsAscii-decimal}
use Rattle.std.proofs.lemmas.List.{take-append-drop}
use Rattle.std.proofs.lemmas.Str.{IsAscii-append, IsUtf8-from_ascii}
use Rattle.std.proofs.lemmas.Bool.{and_parts, ltb-true}
use Rattle.std.proofs.lemmas.Str.Ascii.{IsAscii-cons, IsAscii-nil}
use Rattle.notation.specs.declared.{entry.Entry.Entry, fault.LineFault.LineFault}
use Rattle.notation.specs.Reading.{line_answer}
use Rattle.notation.specs.Written.{found_number, text_of}
use Rattle.notation.proofs.Faults.{fault_of, line_fault}
use Rattle.notation.proofs.Found.{chosen, same}
use Rattle.notation.proofs.Joined.{words_are}
use Rattle.notation.proofs.Numbers.{own, parts, written}
use Rattle.notation.proofs.Texts.{line_again, line_found}
use Rattle.agree_core.specs.declared.messages.DeskId.{DeskId}
use Rattle.entry_log.specs.declared.mem_disk.choice.Choice.{Choice}
use Rattle.headline.specs.declared.event.{Event.Event}
use Rattle.schedules.specs.declared.schedule_fault.ScheduleFault.{ScheduleFault}
use Rattle.schedules.specs.declared.schedule_fault.ScheduleFault.TheVariants.{NoMemory, BadEvent, BadEntry}
use Rattle.schedules.specs.ScheduleLines.{choice_words, desk_word, event_text, pen_line, station_word, HasBadEntry, IsNoEvent, IsWrittenChoice, IsWrittenEvent, IsWrittenStation}
use Rattle.schedules.specs.inner.ScheduleReading.{◌>>=◌, Reader, after_start, both_at, choice_at, count_at, cut, desk_at, event_at, event_or}
use Rattle.schedules.specs.inner.ScheduleReading.{fill_at, give_at, line_says, pen_at, pen_or, penned, pick, power_at, readers, station_at}
use Rattle.schedules.proofs.ScheduleCuts.{cut_digits, cut_found}

bind_some : {X Y : Type 0} → (o : Option X) (f : X → Option Y) (y : Y) → (o >>= f) ≡ Some y → (x : X) × (o ≡ Some x) × (f x ≡ Some y)
bind_some o f y h = grind arith

ascii_of : (bs : List ℕ) → list_all (λ b. nat_lt b 128) bs ≡ true → IsAscii bs
ascii_of [] h = IsAscii-nil
ascii_of (b ∷ bs) h = let p = and_parts (nat_lt b 128) (list_all (λ x. nat_lt x 128) bs) h in IsAscii-cons b bs (ltb-true b 128 p.0) (ascii_of bs p.1)

spaced_ascii : (a b : List ℕ) → IsAscii a → IsAscii b → IsAscii (a ++ (32 ∷ b))
spaced_ascii a b h k = IsAscii-append a (32 ∷ b) h (IsAscii-cons 32 b (lit< tt) k)

-- what is written is read back, and what is read was written like this, in ASCII
record Reading {X : Type 0} (read : List ℕ → Option X) (write : X → List ℕ) (Fine : X → Type 0) : Type 0 where
  again : (x : X) → Fine x → read (write x) ≡ Some x
  found : (w : List ℕ) (x : X) → read w ≡ Some x → Fine x × (w ≡ write x)
  ascii : (x : X) → Fine x → IsAscii (write x)

number : (low high : ℕ) → high < 2 ^ 64 → Reading (found_number low high) decimal (λ n. (low ≤ n) × (n ≤ high))
number low high small = record {
  again = λ n h. rw (written low high n h.0 h.1 small) (ap Some (digits_value-decimal own n (omega (arith, h.1))));
  found = λ w n h. grind (arith, parts low high w);
  ascii = λ n h. IsAscii-decimal n (omega (arith, h.1));
}

-- two parts with a space between them
both : {X Y : Type 0} {f : List ℕ → Option X} {g : List ℕ → Option Y} {a : X → List ℕ} {b : Y → List ℕ} {P : X → Type 0} {Q : Y → Type 0} → Reading f a P → Reading g b Q
    → ((x : X) (rest : List ℕ) → P x → cut (a x ++ (32 ∷ rest)) ≡ Some (a x, rest)) → Reading (both_at f g) (λ p. a p.0 ++ (32 ∷ b p.1)) (λ p. P p.0 × Q p.1)
both {f = f} {g = g} {b = b} r s first = record {
  again = λ p h. rw (first p.0 (b p.1) h.0, r.again p.0 h.0, s.again p.1 h.1) refl;
  found = λ w p h.
      let c = bind_some (cut w) _ p h in
      grind (arith, c.2, cut_found w c.0 c.1, r.found (c.0).0, s.found (c.0).1);
  ascii = λ p h. spaced_ascii _ _ (r.ascii p.0 h.0) (s.ascii p.1 h.1);
}

desk : Reading desk_at desk_word (λ d. Unit {0})
unfolding desk_at
desk = record {
  again = λ d h. grind arith;
  found = λ w d h. (tt, grind (arith, same w (codes "a"), same w (codes "b")));
  ascii = λ d h. grind (arith, ascii_of (codes "a") refl, ascii_of (codes "b") refl);
}

cut_desk : (d : DeskId) (rest : List ℕ) → Unit {0} → cut (desk_word d ++ (32 ∷ rest)) ≡ Some (desk_word d, rest)
unfolding cut
cut_desk d rest h = grind arith

-- a digit names no desk
no_desk : (n : ℕ) → n ≤ 4 → desk_at (decimal n) ≡ None
unfolding desk_at
no_desk n h = rw (decimal_digit n (omega arith), ne_eqb (48 + n) 97 (omega arith), ne_eqb (48 + n) 98 (omega arith)) refl

station : Reading station_at station_word IsWrittenStation
unfolding station_at
station =
    let board = number 1 4 (lit< tt) in
    record {
      again = λ t h. grind (arith, desk.again, no_desk, board.again);
      found = λ w t h. grind (arith, desk.found w, board.found w);
      ascii = λ t h. grind (arith, desk.ascii, board.ascii);
    }

-- ---- what a power loss leaves

abbrev choice_text : Choice → List ℕ
choice_text c = join_with_byte 32 (choice_words c)

choice_again : (c : Choice) → IsWrittenChoice c → choice_at (choice_text c) ≡ Some c
unfolding choice_at fill_at cut
choice_again c h = let n = number 0 255 (lit< tt) in grind (arith, n.again)

fill_found : (w : List ℕ) (c : Choice) → fill_at w ≡ Some c → IsWrittenChoice c × (w ≡ choice_text c)
unfolding fill_at
fill_found w c h =
    let p = bind_some (cut w) _ c h in
    let value = number 0 255 (lit< tt) in
    grind (arith, p.2, cut_found w p.0 p.1, same (p.0).0 (codes "fill"), value.found (p.0).1)

choice_found : (w : List ℕ) (c : Choice) → choice_at w ≡ Some c → IsWrittenChoice c × (w ≡ choice_text c)
unfolding choice_at
choice_found w c h = grind (arith, same w (codes "lost"), same w (codes "kept"), fill_found w c)

choice_ascii : (c : Choice) → IsWrittenChoice c → IsAscii (choice_text c)
choice_ascii c h = grind (arith, ascii_of (codes "lost") refl, ascii_of (codes "kept") refl, ascii_of (codes "fill") refl, spaced_ascii (codes "fill"), IsAscii-decimal)

power_text : (d : DeskId) (c : Choice) → codes "power" ++ (32 ∷ (desk_word d ++ (32 ∷ choice_text c))) ≡ event_text (Event.Power d c)
power_text d c = grind arith

-- ---- the words behind the first one

power : Reading (both_at desk_at choice_at) (λ p. desk_word p.0 ++ (32 ∷ choice_text p.1)) (λ p. Unit {0} × IsWrittenChoice p.1)
power = both desk (record { again = choice_again; found = choice_found; ascii = choice_ascii }) cut_desk

count : Reading count_at (λ p. desk_word p.0 ++ (32 ∷ decimal p.1)) (λ p. Unit {0} × ((1 ≤ p.1) × (p.1 ≤ 1000)))
unfolding count_at
count = both desk (number 1 1000 (lit< tt)) cut_desk

give : Reading (both_at (found_number 0 65535) station_at) (λ p. decimal p.0 ++ (32 ∷ station_word p.1)) (λ p. ((0 ≤ p.0) × (p.0 ≤ 65535)) × IsWrittenStation p.1)
give = both (number 0 65535 (lit< tt)) station (λ n rest h. cut_digits (decimal n) rest (digits_decimal own n (omega (arith, h.1))))

-- if the reader reads an event from the words behind its first word, both together are that event's line, in ASCII
abbrev Reads : List ℕ × Reader → Type 0
Reads r = (ws : List ℕ) (e : Event) → r.1 ws ≡ Some e → IsWrittenEvent e × ((r.0 ++ (32 ∷ ws)) ≡ event_text e) × IsAscii (r.0 ++ (32 ∷ ws))

reads : {X : Type 0} {f : List ℕ → Option X} {g : X → List ℕ} {P : X → Type 0} (word : List ℕ) (c : X → Event) → Reading f g P → list_all (λ b. nat_lt b 128) word ≡ true
    → ((x : X) → P x → IsWrittenEvent (c x)) → ((x : X) → (word ++ (32 ∷ g x)) ≡ event_text (c x)) → Reads (word, λ ws. f ws >>= λ x. Some (c x))
reads {f = f} word c r small fine text ws e h =
    let x = bind_some (f ws) _ e h in
    let same : c x.0 ≡ e = cc in
    let p = r.found ws x.0 x.1 in
    rw (← same) (fine x.0 p.0, ap (λ u. word ++ (32 ∷ u)) p.1 ∙ text x.0, spaced_ascii word ws (ascii_of word small) (rw p.1 (r.ascii x.0 p.0)))

abbrev AllRead : List (List ℕ × Reader) → Type 0
AllRead [] = Unit {0}
AllRead (r ∷ rs) = Reads r × AllRead rs

pick_reads : (first : List ℕ) (rs : List (List ℕ × Reader)) → AllRead rs → (ws : List ℕ) (e : Event) → pick first rs ws ≡ Some e
    → IsWrittenEvent e × ((first ++ (32 ∷ ws)) ≡ event_text e) × IsAscii (first ++ (32 ∷ ws))
pick_reads first [] all ws e h = absurd (cc)
pick_reads first (r ∷ rs) all ws e h = elim (chosen (bytes_eq first r.0) (r.1 ws) (pick first rs ws) (Some e) h) [
  | inl p ↦ rw (same first r.0 p.0) (all.0 ws e p.1)
  | inr p ↦ pick_reads first rs all.1 ws e p.1
]

all_read : AllRead readers
unfolding give_at power_at
all_read =
    let tick = reads (codes "tick") Event.Tick station refl (λ t h. h) (λ t. refl) in
    let given = reads (codes "give") (λ p. Event.Give p.0 p.1) give refl (λ p h. (h.0.1, h.1)) (λ p. refl) in
    let kill = reads (codes "kill") Event.Kill desk refl (λ d h. tt) (λ d. refl) in
    let lost = reads (codes "power") (λ p. Event.Power p.0 p.1) power refl (λ p h. h.1) (λ p. power_text p.0 p.1) in
    let fail = reads (codes "fail") (λ p. Event.FailAt p.0 p.1) count refl (λ p h. h.1) (λ p. refl) in
    let stop = reads (codes "stop") (λ p. Event.StopAt p.0 p.1) count refl (λ p h. h.1) (λ p. refl) in
    let opens = reads (codes "open") Event.Open desk refl (λ d h. tt) (λ d. refl) in
    let wipe = reads (codes "wipe") Event.Wipe (number 1 4 (lit< tt)) refl (λ n h. h) (λ n. refl) in
    let migrate = reads (codes "migrate") Event.Migrate desk refl (λ d h. tt) (λ d. refl) in
    (tick, (given, (kill, (lost, (fail, (stop, (opens, (wipe, (migrate, tt)))))))))

-- if a line is read as an event, it is that event's line; bytes that aren't UTF-8 are no event's
event_found : (line : List ℕ) (e : Event) → event_at line ≡ Some e → IsWrittenEvent e × (line ≡ event_text e) × IsAscii line
unfolding event_at
event_found line e h =
    let p = bind_some (cut line) _ e h in
    let q = pick_reads (p.0).0 readers all_read (p.0).1 e p.2 in
    let is = cut_found line p.0 p.1 in
    (q.0, is ∙ q.1, subst IsAscii (sym is) q.2)

pub event_utf8 : (line : List ℕ) (e : Event) → event_at line ≡ Some e → IsUtf8 line
event_utf8 line e h = let p = event_found line e h in IsUtf8-from_ascii line p.2

-- a pen line, with the line of its entry
pen_text : (d : DeskId) (e : Entry) → event_text (Event.Pen d e) ≡ pen_line d (text_of e)
pen_text d e = grind (arith, words_are)

pen_again : (d : DeskId) (entry : List ℕ) → pen_at (pen_line d entry) ≡ Some (d, entry)
unfolding pen_at
pen_again d entry = grind arith

-- the line of an event says that event
pub says_again : (n : ℕ) (e : Event) → IsWrittenEvent e → line_says n (event_text e) ≡ Ok e
unfolding line_says pen_at event_at cut give_at power_at
says_again n (Event.Pen d e) h =
    ap (line_says n) (pen_text d e) ∙ (ap (λ o. pen_or n o (pen_line d (text_of e))) (pen_again d (text_of e)) ∙ ap (penned n d) (line_again e h))
says_again n (Event.Give m t) h = rw (give.again (m, t) ((omega arith, h.0), h.1)) refl
says_again n (Event.Power d c) h = ap (line_says n) (sym (power_text d c)) ∙ rw (power.again (d, c) (tt, h)) refl
says_again n (Event.FailAt d k) h = rw (count.again (d, k) (tt, h)) refl
says_again n (Event.StopAt d k) h = rw (count.again (d, k) (tt, h)) refl
says_again n e h = let board = number 1 4 (lit< tt) in grind (arith, station.again, desk.again, board.again)

start_found : (start line rest : List ℕ) → after_start start line ≡ Some rest → line ≡ start ++ rest
start_found start line rest h = grind (arith, same (take (length start) line) start, take-append-drop (length start) line)

pen_found : (line : List ℕ) (p : DeskId × List ℕ) → pen_at line ≡ Some p → line ≡ pen_line p.0 p.1
unfolding pen_at
pen_found line p h = grind (arith, start_found (codes "pen a ") line, start_found (codes "pen b ") line)

-- what is said of line n: that it is this event's line, or that it has this fault
abbrev pub IsSaid : ℕ → List ℕ → Result Event ScheduleFault → Type 0
IsSaid n line (Ok e) = IsWrittenEvent e × (line ≡ event_text e)
IsSaid n line (Err NoMemory) = ⊥
IsSaid n line (Err (BadEvent k)) = (k ≡ n) × IsNoEvent line
IsSaid n line (Err (BadEntry k fault)) = (k ≡ n) × HasBadEntry fault line

no_event : (n : ℕ) (line : List ℕ) → pen_at line ≡ None → event_at line ≡ None → IsNoEvent line
unfolding line_says
no_event n line pen other = record {
  no_event = λ e h was. grind (arith, says_again n e h, pen, other);
  no_pen = λ d entry was. grind (arith, pen_again d entry, pen);
}

entry_says : (n : ℕ) (d : DeskId) (entry : List ℕ) (r : Result Entry LineFault) → line_answer entry ≡ r → IsSaid n (pen_line d entry) (penned n d r)
entry_says n d entry (Ok x) was = let p = line_found entry x was in (p.0, ap (pen_line d) p.1 ∙ sym (pen_text d x))
entry_says n d entry (Err f) was = (refl, (d, entry, refl, line_fault entry ∙ ap fault_of was))

event_says : (n : ℕ) (line : List ℕ) (o : Option Event) → pen_at line ≡ None → event_at line ≡ o → IsSaid n line (event_or n o)
event_says n line o pen was = grind (arith, event_found line, no_event n line pen)

pen_says : (n : ℕ) (line : List ℕ) (o : Option (DeskId × List ℕ)) → pen_at line ≡ o → IsSaid n line (pen_or n o line)
pen_says n line o was = grind (arith, was, pen_found line, entry_says n, event_says n line)

pub is_said : (n : ℕ) (line : List ℕ) (r : Result Event ScheduleFault) → line_says n line ≡ r → IsSaid n line r
unfolding line_says
is_said n line r says = rw (← says) (pen_says n line (pen_at line) refl)
