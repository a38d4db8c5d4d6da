use Rattle.plans.proofs.planning.+add_parts.Given as goal

-- taken from the argument that the function passes when it calls itself
abbrev pub decreases-add_parts : goal.decreases-add_parts
decreases-add_parts g l = l.more
