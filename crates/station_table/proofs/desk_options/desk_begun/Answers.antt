use Rattle.std.proofs.Common.{refl}
use Rattle.station_table.proofs.desk_options.desk_begun.Goals as goal

pub returns : goal.returns
returns c =
    rw (
      c.or_else.ensures,
      c.or_else-file.ensures,
      c.text_in.ensures,
      c.own_file.ensures,
      c.or_else-2.ensures,
      c.or_else-copy.ensures,
      c.text_in-2.ensures,
      c.own_copy.ensures,
      c.text_in-3.ensures,
      c.or_else-3.ensures,
      c.text_in-4.ensures,
      c.or_else-4.ensures,
      c.text_in-5.ensures,
      c.own.ensures,
      c.or_else-5.ensures,
      c.text_in-6.ensures,
      c.others.ensures,
      c.boards_or.ensures,
      c.columns_or.ensures,
      c.columns_in.ensures,
    ) refl
