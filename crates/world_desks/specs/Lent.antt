-- A desk that a world lends.
use Rattle.world_desks.specs.declared.{any_desk.AnyDesk.AnyDesk, world_desk.WorldDesk.WorldDesk}

-- the desk that is lent
abbrev pub lent_desk : AnyDesk → WorldDesk
lent_desk (AnyDesk.Old k) = WorldDesk.Old k.now
lent_desk (AnyDesk.New k) = WorldDesk.New k.now
