use Rattle.std.specs.Fmt.{digits}
use Rattle.toml_datetime.specs.Parse.{after_date, full_date, parse_datetime, partial_time, seconds, two_digits}
use Rattle.toml_datetime.specs.Text.{date_text, two_wide}
use Rattle.toml_datetime.specs.Valid.{is_valid_date, is_valid_time}
use Rattle.export.proofs.laws.worked_documents.Goals as goal

pub returns : goal.returns
unfolding digits after_date full_date parse_datetime partial_time seconds two_digits date_text two_wide is_valid_date is_valid_time
returns c = assumption
