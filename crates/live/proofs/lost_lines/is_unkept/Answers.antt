use Rattle.live.proofs.lost_lines.is_unkept.Goals as goal

pub is_unkept_vote-requires : goal.is_unkept_vote-requires
is_unkept_vote-requires g c = (rw c.in-Ok-Vote.field-0-is at (c.requires c.in-Ok-Vote.field-0 c.in-Ok-Vote.is)).1
