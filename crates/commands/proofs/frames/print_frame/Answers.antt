use Rattle.std.proofs.Common.{◌≡◌, ℕ, List, ◌++◌, refl, codes, decimal, length, string_bytes, append_assoc}
use Rattle.commands.proofs.frames.print_frame.Goals as goal

-- the parts of a frame, joined from the end
layout : (folder a b agreed bytes text : List ℕ) →
    folder ++ codes "\t" ++ a ++ codes "\t" ++ b ++ codes "\t" ++ agreed ++ codes "\t" ++ bytes ++ codes "\n" ++ text
    ≡ folder ++ (codes "\t" ++ (a ++ (codes "\t" ++ (b ++ (codes "\t" ++ (agreed ++ (codes "\t" ++ (bytes ++ (codes "\n" ++ text)))))))))
layout folder a b agreed bytes text =
    rw (
      append_assoc (folder ++ codes "\t" ++ a ++ codes "\t" ++ b ++ codes "\t" ++ agreed ++ codes "\t" ++ bytes) (codes "\n") text,
      append_assoc (folder ++ codes "\t" ++ a ++ codes "\t" ++ b ++ codes "\t" ++ agreed ++ codes "\t") bytes (codes "\n" ++ text),
      append_assoc (folder ++ codes "\t" ++ a ++ codes "\t" ++ b ++ codes "\t" ++ agreed) (codes "\t") (bytes ++ (codes "\n" ++ text)),
      append_assoc (folder ++ codes "\t" ++ a ++ codes "\t" ++ b ++ codes "\t") agreed (codes "\t" ++ (bytes ++ (codes "\n" ++ text))),
      append_assoc (folder ++ codes "\t" ++ a ++ codes "\t" ++ b) (codes "\t") (agreed ++ (codes "\t" ++ (bytes ++ (codes "\n" ++ text)))),
      append_assoc (folder ++ codes "\t" ++ a ++ codes "\t") b (codes "\t" ++ (agreed ++ (codes "\t" ++ (bytes ++ (codes "\n" ++ text))))),
      append_assoc (folder ++ codes "\t" ++ a) (codes "\t") (b ++ (codes "\t" ++ (agreed ++ (codes "\t" ++ (bytes ++ (codes "\n" ++ text)))))),
      append_assoc (folder ++ codes "\t") a (codes "\t" ++ (b ++ (codes "\t" ++ (agreed ++ (codes "\t" ++ (bytes ++ (codes "\n" ++ text))))))),
      append_assoc folder (codes "\t") (a ++ (codes "\t" ++ (b ++ (codes "\t" ++ (agreed ++ (codes "\t" ++ (bytes ++ (codes "\n" ++ text)))))))),
    ) refl

pub returns-clause-text : goal.returns-clause-text
returns-clause-text g c =
    let frame = c.args.frame.now in
    let text = string_bytes frame.text in
    rw (layout c.args.folder.now (decimal frame.places.0) (decimal frame.places.1) (decimal frame.agreed) (decimal (length text)) text)
    (rw c.as_str-text.ensures.value at c.write.ensures.bytes)
