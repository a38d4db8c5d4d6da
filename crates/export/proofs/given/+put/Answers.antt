use Rattle.std.proofs.Common.{◌≡◌, ◌+◌, [], ◌∷◌, ◌++◌, drop, string_bytes, refl, sym, ap, ◌∙◌, subst, arith, rules}
use Rattle.std.proofs.lemmas.List.{drop_more, drop_all}
use Rattle.std.proofs.lemmas.Result.{on_ok_weaker}
use Rattle.toml.specs.View.{view, items_view, members_view}
use Rattle.toml.proofs.Views.{Entry, view-Array, view-Boolean, view-Datetime, view-Integer, view-String, view-Table}
use Rattle.json.specs.Json.{boolean, number, string}
use Rattle.json.specs.Token.{begin_array, begin_object, key}
use Rattle.json.specs.Tree.{json_tokens, items_tokens, members_tokens}
use Rattle.json_fields.specs.Values.{PutsValues, array_of, object_of, items_of, members_of}
use Rattle.json_fields.proofs.Putting.{joined, one_value}
use Rattle.std.specs.Fmt.{signed_decimal}
use Rattle.toml_datetime.specs.Text.{datetime_text}
use Rattle.export.specs.inner.Putting.{PutsItems, PutsMembers}
use Rattle.export.proofs.given.+put.Goals as goal

pub put_value-returns-in-String : goal.put_value-returns-in-String
put_value-returns-in-String t c =
    on_ok_weaker c.token.result (λ e. (string c.as_str.result.now, rw (c.in-String.is, view-String) (ap string c.as_str.ensures.value), e)) c.token.ensures.ok

pub put_value-returns-in-Integer : goal.put_value-returns-in-Integer
put_value-returns-in-Integer t c =
    let v = number (signed_decimal c.in-Integer.number) in
    let put : PutsValues c.put_whole.result c.args.out.now c.put_whole.new.out (v ∷ []) = search rules in
    on_ok_weaker c.put_whole.result (λ e. (v, rw (c.in-Integer.is, view-Integer), e)) (rw one_value at put)

pub put_value-returns-in-Boolean : goal.put_value-returns-in-Boolean
put_value-returns-in-Boolean t c =
    on_ok_weaker c.token-in-Boolean.result (λ e. (boolean c.in-Boolean.holds, rw (c.in-Boolean.is, view-Boolean), e)) c.token-in-Boolean.ensures.ok

pub put_value-returns-in-Datetime : goal.put_value-returns-in-Datetime
put_value-returns-in-Datetime t c =
    let v = string (datetime_text c.in-Datetime.datetime) in
    on_ok_weaker c.put_datetime.result (λ e. (v, rw (c.in-Datetime.is, view-Datetime), e)) (rw one_value at c.put_datetime.ensures)

pub put_value-returns-in_ok-token-in-Array : goal.put_value-returns-in_ok-token-in-Array
put_value-returns-in_ok-token-in-Array t c =
    let seen = ap view c.in-Array.is ∙ view-Array c.in-Array.items in
    on_ok_weaker c.put_items.result (λ w. (
      array_of w.0,
      rw seen (w.0, refl, w.1),
      joined c.args.out.now c.token-in-Array.new.self _ (begin_array ∷ []) (items_tokens (items_of w.0)) c.in_ok-token-in-Array.ensures.ok w.2,
    )) c.put_items.ensures

pub put_value-returns-in_ok-token-in-Table : goal.put_value-returns-in_ok-token-in-Table
put_value-returns-in_ok-token-in-Table t c =
    let seen = ap view c.in-Table.is ∙ view-Table c.in-Table.members in
    on_ok_weaker c.put_members.result (λ w. (
      object_of w.0,
      rw seen (w.0, refl, w.1),
      joined c.args.out.now c.token-in-Table.new.self _ (begin_object ∷ []) (members_tokens (members_of w.0)) c.in_ok-token-in-Table.ensures.ok w.2,
    )) c.put_members.ensures

pub put_items-loop-item-preserved : goal.put_items-loop-item-preserved
put_items-loop-item-preserved t c =
    let l = c.loop-item in
    let xs = c.deref-item-items.result.now in
    let x = c.item-item.result in
    let here : drop l.item-index xs ≡ x ∷ drop (l.item-index + 1) xs = drop_more xs l.item-index x (omega arith) ∙ ap (λ y. y ∷ drop (l.item-index + 1) xs) (sym c.item-item.is) in
    let w = c.in_ok-put_value.ensures in
    λ end rest. l.invariant end (subst (λ ys. PutsItems (items_view ys) l.out end) (sym here) (
      w.0 ∷ rest.0,
      (w.0, rest.0, refl, w.1, rest.1),
      joined l.out _ end (json_tokens w.0) (items_tokens (items_of rest.0)) w.2 rest.2,
    ))

pub put_items-returns : goal.put_items-returns
put_items-returns t c =
    let l = c.loop-item in
    let none : drop l.item-index c.deref-item-items.result.now ≡ [] = drop_all l.item-index _ (omega arith) in
    on_ok_weaker c.token.result (λ e. rw (← c.deref-item-items.ensures.value)
    (l.invariant c.token.new.self (rw none ([], refl, e)))) c.token.ensures.ok

pub put_members-loop-key-preserved : goal.put_members-loop-key-preserved
put_members-loop-key-preserved t c =
    let l = c.loop-key in
    let e : Entry = (c.in-Some.key.now, c.in-Some.value.now) in
    let k = string_bytes c.in-Some.key.now in
    let step : l.key-iterator ≡ e ∷ c.next.new.self = c.in-Some.ensures.steps in
    let named : c.token.new.self ≡ l.out ++ key k ∷ [] = search rules in
    let w = c.in_ok-put_value.ensures in
    λ end rest. l.invariant end (subst (λ es. PutsMembers (members_view es) l.out end) (sym step) (
      (k, w.0) ∷ rest.0,
      (w.0, rest.0, refl, w.1, rest.1),
      joined l.out c.token.new.self end (key k ∷ []) (json_tokens w.0 ++ members_tokens (members_of rest.0)) named
          (joined c.token.new.self _ end (json_tokens w.0) (members_tokens (members_of rest.0)) w.2 rest.2),
    ))

pub put_members-returns : goal.put_members-returns
put_members-returns t c =
    let l = c.loop-key in
    let end = c.token-2.new.self in
    on_ok_weaker c.token-2.result (λ e. l.invariant end (subst (λ es. PutsMembers (members_view es) l.out end) (sym c.in-None.ensures.steps.0) ([], refl, e))) c.token-2.ensures.ok
