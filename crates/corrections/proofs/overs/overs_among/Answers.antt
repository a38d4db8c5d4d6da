use Rattle.std.proofs.Common.{ap, ◌∙◌}
use Rattle.corrections.specs.Overs.{balls_of}
use Rattle.corrections.proofs.ListLemmas.{drop_slice}
use Rattle.corrections.proofs.OverLemmas.{overs-kept, this_from}
use Rattle.corrections.proofs.overs.overs_among.Goals as goal

pub returns-clause-kept : goal.returns-clause-kept
returns-clause-kept c =
    let items = c.args.items.now in
    let from = c.over_from-from in
    overs-kept _ items (record {
      this = ap balls_of (drop_slice items from.result) ∙ this_from items from.result from.ensures.adds from.ensures.parted;
      last = c.called_over.ensures.over ∙ from.ensures.adds.last;
    })
