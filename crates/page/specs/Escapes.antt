-- A text escaped for HTML: each sign that could begin or end an element, a reference or an attribute is a reference.
use Rattle.std.specs.Prelude.{◌≡◌, ℕ, ◌==◌, Bool, ◌||◌, if◌then◌else◌, List, ◌++◌, chars, codes, encode_utf8, flat_map, string_bytes, String, Result, OnOk}
use Rattle.std.specs.declared.alloc.Global.{Global}

-- the signs that begin and end elements and attribute values
abbrev pub is_markup : ℕ → Bool
is_markup b = (b == 60 || b == 62) || (b == 34 || b == 39)

abbrev pub escaped_char : ℕ → List ℕ
escaped_char c =
    if c == 38 then codes "&amp;"
    else (if c == 60 then codes "&lt;"
    else (if c == 62 then codes "&gt;"
    else (if c == 34 then codes "&quot;"
    else (if c == 39 then codes "&#39;" else encode_utf8 c))))

abbrev pub escaped : List ℕ → List ℕ
escaped text = flat_map escaped_char (chars text)

-- a name, in an element that keeps it on one line
abbrev pub name_html : List ℕ → List ℕ
name_html name = codes "<span class='name'>" ++ escaped name ++ codes "</span>"

-- the call adds a text at the end of a string, if it succeeds
abbrev pub Puts : {T E : Type 0} → Result T E → String Global → String Global → List ℕ → Type 0
Puts answer old new text = OnOk answer (string_bytes new ≡ string_bytes old ++ text)
