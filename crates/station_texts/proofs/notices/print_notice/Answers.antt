use Rattle.std.proofs.Common.{◌≡◌, ◌∙◌, ◌++◌, ℕ, List, ap, append_assoc, codes, refl, subst, sym}
use Rattle.std.specs.Prelude.{OnOk, decimal}
use Rattle.streams.specs.Watched.{Prints}
use Rattle.station_texts.specs.Notices.{notice_text}
use Rattle.station_texts.specs.declared.notices.Notice.{Notice}
use Rattle.station_texts.proofs.notices.print_notice.Goals as goal

apart : (p : ℕ) → notice_text (Notice.Apart p) ≡ decimal p ++ codes " the desks told this board different lines\n"
apart p =
    rw (
      append_assoc (decimal p ++ codes " ") (codes "the desks told this board different lines") (codes "\n"),
      append_assoc (decimal p) (codes " ") (codes "the desks told this board different lines\n"),
    ) refl

pub returns-in-Apart-clause-text : goal.returns-in-Apart-clause-text
returns-in-Apart-clause-text g c =
    subst (λ (text : List ℕ). OnOk c.writeln-in-Apart.result (Prints g.W.Sink.contents c.args.out.now c.writeln-in-Apart.new.self text))
    (sym (ap notice_text c.in-Apart.is ∙ apart c.in-Apart.place)) c.writeln-in-Apart.ensures.bytes
