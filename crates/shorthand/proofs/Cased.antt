-- Lines with an unknown word, as typed and in lower case, computed.
use Rattle.std.specs.Fmt.{digits}
use Rattle.notation.specs.Reading.{line_answer}
use Rattle.notation.specs.inner.TokenReading.{after_first, all_of, ball_at, bound_at, dismissal_at, entry_at, number_at, out_at, placed_at, plain_at, short_at, skip, word_at}
use Rattle.corrections.specs.CleanList.{clean, clean_items_of, history_of}
use Rattle.shorthand.specs.Full.{begins_delivery, by_bowler, by_letter, by_same_bowler, colon_delivery, item_from, runs_from, unnamed}
use Rattle.shorthand.specs.Worked.{WorkedCases}

pub worked_cases : WorkedCases
unfolding clean_items_of clean history_of digits line_answer after_first all_of ball_at bound_at dismissal_at entry_at number_at out_at placed_at plain_at short_at skip word_at begins_delivery by_bowler by_letter by_same_bowler colon_delivery item_from runs_from unnamed
worked_cases = assumption
