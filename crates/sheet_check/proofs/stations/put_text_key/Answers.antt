use Rattle.std.proofs.Common.{◌≡◌, ◌∙◌, codes}
use Rattle.sheet_check.specs.Reports.{faults_in}
use Rattle.sheet_check.specs.Stations.{place}
use Rattle.sheet_check.proofs.Puts.{kind_at}
use Rattle.sheet_check.proofs.stations.put_text_key.Goals as goal

pub returns : goal.returns
returns c =
    let is_place : c.as_str-in-None.result.now ≡ place c.args.key.now = c.as_str-in-None.ensures.value ∙ c.in_ok-place.ensures in
    rw (← c.in-None.ensures)
    (kind_at c.put_kind.result (faults_in c.args.out.now) (faults_in c.put_kind.new.out) c.as_str-in-None.result.now (place c.args.key.now)
    (codes "isn't a text in quotes") is_place c.put_kind.ensures)
