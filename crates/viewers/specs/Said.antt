-- What a viewer was told, and what its stream has taken.
use Rattle.std.specs.Prelude.{◌≡◌, ◌⊎◌, ℕ, Bool, List, [], ◌++◌, drop, take}
use Rattle.http1.specs.declared.server.Server.{Server}
use Rattle.viewers.specs.Replies.{reply_text, told_text, beat_text}
use Rattle.viewers.specs.declared.logs.{SaidLog.SaidLog, SaidLog.Empty, SaidLog.Answered', SaidLog.Told', SaidLog.Beat', TakenLog.TakenLog}
use Rattle.viewers.specs.declared.logs.TakenLog as taken
use Rattle.viewers.specs.declared.page_texts.PageTexts.{PageTexts}
use Rattle.viewers.specs.declared.stream.Wire.{Wire}

-- the bytes of all that a viewer was told: answers, states and beats, with nothing between them
abbrev pub said_in : SaidLog → List ℕ
said_in Empty = []
said_in (Answered' marker before server asked shown) = said_in before ++ reply_text server.value asked.value shown.value
said_in (Told' marker before server is_signed shown) = said_in before ++ told_text server.value is_signed.value shown.value
said_in (Beat' marker before server) = said_in before ++ beat_text server.value

-- what a viewer is told at once: nothing, what is shown as it may read it, or a beat
abbrev pub Tells : Server → Bool → PageTexts → List ℕ → List ℕ → Type 0
Tells s is_signed shown before after =
    (after ≡ before) ⊎ (after ≡ before ++ told_text s is_signed shown) ⊎ (after ≡ before ++ beat_text s)

-- the bytes that a stream has taken
abbrev pub bytes_in : TakenLog → List ℕ
bytes_in taken.Empty = []
bytes_in (taken.More' marker before bytes from count) = bytes_in before ++ take count.value (drop from.value bytes.value.items)

abbrev pub taken_by : {S : Type 0} → Wire S → List ℕ
taken_by wire = bytes_in wire.taken
