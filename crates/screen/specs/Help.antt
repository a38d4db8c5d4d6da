-- What each word of a desk does, with an example line as it is typed.
use Rattle.std.specs.Prelude.{ℕ, List, codes}
use Rattle.screen.specs.declared.topic.Topic.{Topic}
use Rattle.screen.specs.declared.topic.Topic.TheVariants.{Innings, In, Ball, Gone, Over, Penalty, Swap, End, Close, Void, Fix, Late, Again, Undo, Listing, Score, Card, Players, Bowlers, Who, Plan, Quit, Short}

-- the forms of all lines, full and short
abbrev pub help : List ℕ
help = codes "innings S       S: home away\nin n            n: 1 to 11\nball b K r [short s] [B] [dead] [out H W f [crossed]]\n  K: bat bye leg wide nb nbbye nbleg    B: four six overthrow\n  H: bowled caught lbw stumped hitwicket hittwice obstructing runout\n  W: striker other    f: 0 none, 12 a substitute\ngone L n        L: timedout retiredout retiredhurt runout\nover            ends the over; over n [S i]: the entries of the n-th one\npenalty S x y   by Law x.y\nswap\nend C           C: allout nobatter declared forfeited overs\nclose, void     the match is over; no entry, where one is struck out\nfix p E         puts E, any line above, in place of entry p, or of ball 9.2\nlate p E        adds E, any line above, after entry p\nagain [E]       E, or what you wrote before, where you two differ\nundo            takes back the line held last; none held: voids the last entry\nlist [n], a b   the last n entries (12 by default); those at places a to b\nscore, card [n] this over and the total; both cards of this innings or the n-th\nplayers, who    both sides; who is still to bat; an empty line: where you are\nbowlers         who may bowl the next ball\nplan E, E ..    how to enter fix and late lines that are legal only together\nhelp [word]     this, or more on one of these words; short: short lines\nquit, exit      ends the desk; the same command resumes\n"

abbrev pub help_short : List ℕ
help_short = codes "A delivery:  [B:] [RUNS] [OPTIONS] [OUT]   at least one of the last three\nB: the bowler, as 10: or usher:   Left out: that of this over's last ball, so\n   the first ball of each over names its bowler.\nRUNS: letters and a figure with no space, as 1 or lb4\n   none bat       .0 0\n   b    bye       1  1\n   lb   leg       2  2\n   wd   wide      3  3\n   nb   nb        4  0 four\n   nbb  nbbye     5  5\n   nblb nbleg     6  0 six\n   wd is wide 0, and nb is nb 0.   nb 4 is four all run, and nb4 a four.\n   K r stands as in a full line: bat 4 is four all run.   Left out: bat 0\n   Also wide, no ball, dot, four, six, 1b to 4b, 1lb to 4lb, 1wd, 1nb, lb 1\nOPTIONS: short s, overthrow, dead\nOUT: [out] H [W] [f] [crossed]   H also c, ct, st, ro, run out, hit wicket, c&b\n   W left out is striker, never for runout and obstructing\n   f left out is 0; it is a number, a name or sub\n/  is over.\nNames, in any case, for n, b, B: and f: the whole name, the last word of one\n   player's name, or how a word in the name of one player begins.\nfix p, late p and again: short lines may follow them, too.\n"

abbrev pub help_on : Topic → List ℕ
help_on Innings = codes "innings S: an innings of side S begins, home or away\n  innings home\n"
help_on In = codes "in n: player n of the batting side comes in, by number or name\n  in 3\n"
help_on Ball = codes "ball b K r [short s] [B] [dead] [out H W f [crossed]]: a delivery of bowler b\n  ball 10 bat 0 out caught striker 4\n"
help_on Gone = codes "gone L n: batter n leaves between deliveries\n  gone retiredhurt 3\n"
help_on Over = codes "over: the umpire calls over; over n [S i]: the entries of over n\n  over 9 home 1\n"
help_on Penalty = codes "penalty S x y: five penalty runs to side S, by Law x.y\n  penalty away 41 7\n"
help_on Swap = codes "swap: the batters change ends\n  swap\n"
help_on End = codes "end C: the innings ends, by this cause\n  end declared\n"
help_on Close = codes "close: closes the match; corrections are still taken\n  close\n"
help_on Void = codes "void: no entry; fix p void strikes out the entry at place p\n  fix 12 void\n"
help_on Fix = codes "fix p E: puts E in place of the entry at place p, or of the ball 9.2\n  fix 12 ball 10 bat 2\n"
help_on Late = codes "late p E: adds E, which was left out, after place p\n  late 12 in 5\n"
help_on Again = codes "again [E]: where you two differ, writes E, or what you wrote before\n  again ball 10 bat 2\n"
help_on Undo = codes "undo: takes back the line held last; none held: fix p void of the last entry\n  undo\n"
help_on Listing = codes "list [n], list a b: the last n entries, or those of the places a to b\n  list 45 70\n"
help_on Score = codes "score: total, extras, both batters, the bowler and his last over\n  score\n"
help_on Card = codes "card [n]: both cards of the innings begun last, or of the n-th\n  card 1\n"
help_on Players = codes "players: both sides, by number and name\n  players\n"
help_on Bowlers = codes "bowlers: who may bowl the next ball, and how many overs each has left\n  bowlers\n"
help_on Who = codes "who: who of the batting side is neither out nor in\n  who\n"
help_on Plan = codes "plan E, E ..: the lines to enter, in order, to make these corrections\n  plan fix 3 2, fix 4 1\nplan bowler n b: the same, where b bowled over n of the latest innings\n  plan bowler 8 usher\n"
help_on Quit = codes "quit: ends the desk; the same command resumes\n  quit\n"
help_on Short = help_short
