-- The texts of a book are those of the figures of its history.
use Rattle.std.proofs.Common.{◌≡◌, ℕ, zero, suc, ◌+◌, ◌*◌, List, [], ◌∷◌, ◌++◌, refl, ap, arith}
use Rattle.std.specs.Prelude.{All, Bool, bytes_eq, if◌then◌else◌}
use Rattle.notation.specs.declared.entry.Entry.{Entry}
use Rattle.notation.specs.Written.{IsEntry}
use Rattle.ball_laws.specs.History.{History}
use Rattle.ball_laws.specs.Sums.{tally}
use Rattle.match_laws.specs.History.{begun, opponent, side_of}
use Rattle.match_laws.specs.Figures.{balls, batting_order, bowler_overs, bowling_order, falls, overs, total, wickets}
use Rattle.match_laws.specs.Parts.{batting_row_of, bowling_row_of, extras_of}
use Rattle.corrections.specs.CleanList.{history_of}
use Rattle.corrections.specs.Legal.{IsLegalBook}
use Rattle.cards.specs.Sheet.{Sheet, player_of}
use Rattle.falls.specs.Falls.{falls_at, falls_in}
use Rattle.json_fields.specs.Values.{up_to}
use Rattle.books.specs.Card as books
use Rattle.archive_deliveries.specs.Names.{told_apart}
use Rattle.export.specs.Laws.{innings_at}
use Rattle.export.specs.Readers.{over_balls}
use Rattle.export.proofs.ExtraLemmas.{balls_add_up, extras_add_up}
use Rattle.export.proofs.LawLemmas.{totals_add_up}
use Rattle.export.proofs.ReaderSums.{batter_adds_up, bowler_adds_up, overs_are_sixes}
use Rattle.export.proofs.WicketLemmas.{wickets_add_up}
use Rattle.same_figures.specs.Figures.{Figures}
use Rattle.same_figures.specs.Card.{both_cards}
use Rattle.same_figures.specs.Export.{TellsBatters, TellsBowlers, TellsFigures}
use Rattle.same_figures.specs.Laws.{TellTheSame}

abbrev figures_of : History → ℕ → Figures
figures_of h i = record {
  side = side_of h i;
  total = total h i;
  wickets = wickets h i;
  overs = overs h i;
  balls = balls h i;
  extras = extras_of h i;
  batters = batting_order h i;
  batter = batting_row_of h i;
  bowlers = bowling_order h i;
  bowler = bowling_row_of h i;
  falls = falls h i;
  there = falls_in (i + 1) (falls_at h);
}

cards_up_to : (s : Sheet) (h : History) (n : ℕ) → books.cards_of s h n ≡ up_to (λ i. both_cards s h i (figures_of h i)) n
unfolding up_to
cards_up_to s h zero = refl
cards_up_to s h (suc n) = ap (λ text. text ++ books.both_cards s h n) (cards_up_to s h n)

-- six balls for each over add up to six for all overs
module _ (test : ℕ → Bool) (overs balls : ℕ → ℕ) (sixes : (p : ℕ) → balls p ≡ 6 * overs p) where
  sixes_of : (ps : List ℕ) → tally (λ p. if test p then balls p else 0) ps ≡ 6 * tally (λ p. if test p then overs p else 0) ps
  sixes_of [] = refl
  sixes_of (p ∷ ps) = grind (arith, sixes_of ps, sixes p)

module _ (s : Sheet) (n : ℕ) (book : List Entry) (entries : All IsEntry book) (legal : IsLegalBook n book) (i : ℕ) where
  abbrev h : History
  h = history_of book

  tells_batters : (name : List ℕ) → TellsBatters s h i (figures_of h i) (innings_at s book i) name
  tells_batters name =
      let sums = batter_adds_up s n book entries legal i name in
      record { runs = sums.runs; balls = sums.balls; fours = sums.fours; sixes = sums.sixes }

  tells_bowlers : (name : List ℕ) → TellsBowlers s h i (figures_of h i) (innings_at s book i) name
  tells_bowlers name =
      let sums = bowler_adds_up s n book entries legal i name in
      record {
        runs = sums.runs;
        wickets = sums.wickets;
        wides = sums.wides;
        noballs = sums.noballs;
        overs = sums.overs;
        maidens = sums.maidens;
        balls = sums.balls;
        sixes = λ even. sixes_of (λ p. bytes_eq name (player_of s (opponent (side_of h i)) p)) (bowler_overs h i) (over_balls h i)
            (λ p. overs_are_sixes h i p even) (bowling_order h i);
      }

  tells_figures : TellsFigures s h i (figures_of h i) (innings_at s book i)
  tells_figures = record {
    total = totals_add_up s n book legal i;
    extras = extras_add_up s n book entries legal i;
    wickets = wickets_add_up s n book legal i;
    balls = balls_add_up s n book entries legal i;
    batters = tells_batters;
    bowlers = tells_bowlers;
  }

pub tell_the_same : (s : Sheet) (book : List Entry) → All IsEntry book → IsLegalBook s.innings book → TellTheSame s book
tell_the_same s book entries legal = record {
  figures = figures_of (history_of book);
  card = cards_up_to s (history_of book) (begun (history_of book));
  page = refl;
  board = refl;
  export = tells_figures (told_apart s) s.innings book entries legal;
  falls = refl;
}
