use Rattle.std.proofs.Common.{◌≡◌, ◌∷◌, ◌++◌, List, [], ap, append_assoc, codes, ◌∙◌}
use Rattle.std.proofs.lemmas.Result.{on_ok_weaker}
use Rattle.toml.specs.View.{table_view}
use Rattle.json_fields.specs.Values.{Field, object_of, fields_tokens, number_field}
use Rattle.json_fields.proofs.Putting.{◌▸◌, begins, is_object_field}
use Rattle.export.specs.Info.{head_fields, teams_field, players_field, outcome_fields}
use Rattle.export.proofs.info.put_info.Goals as goal

in_a_row : (event : List Field) (teams players balls : Field) (result given : List Field)
    → ((((event ++ teams ∷ []) ++ players ∷ []) ++ balls ∷ []) ++ result) ++ given ≡ event ++ (teams ∷ players ∷ balls ∷ (result ++ given))
in_a_row event teams players balls result given = simp append_assoc

pub returns : goal.returns
returns c = λ h s.
    let sheet = c.args.sheet.now in
    let put = c.in_ok-put_given.ensures in
    let row = in_a_row (head_fields sheet put.0) (teams_field sheet) (players_field sheet) (number_field (codes "balls_per_over") 6)
    (outcome_fields sheet (table_view c.args.info.now) c.result.result) put.0 in
    let all = is_object_field c.end_object.result _
    (begins c.in_ok-begin_field.ensures ▸ (c.in_ok-put_head.ensures put.0 put.1) ▸ c.in_ok-put_teams.ensures ▸ c.in_ok-put_players.ensures
    ▸ c.in_ok-put_figure.ensures ▸ c.in_ok-put_outcome.ensures ▸ put.2) c.end_object.ensures in
    rw (← c.result.ensures _ h s)
    (on_ok_weaker c.end_object.result (λ e. (put.0, put.1, e ∙ ap (λ fs. c.args.out.now ++ fields_tokens ((codes "info", object_of fs) ∷ [])) row)) all)
