-- What a search comes to is what the session answers.
use Rattle.std.proofs.Common.{◌≡◌, ℕ, ◌≤◌, ◌∙◌, true, false, ap, refl, sym, List, length, Option, Some, None, Result, Ok, Err, IfOk}
use Rattle.std.specs.Prelude.{unwrap_or}
use Rattle.std.proofs.lemmas.Bool.{both_ways}
use Rattle.std.proofs.lemmas.Option.{none-some, same_Some}
use Rattle.session_model.proofs.Choices.{or_else_parts}
use Rattle.orc_ids.specs.declared.ids.UnitId.{UnitId}
use Rattle.orc_ids.specs.declared.limits.TheConstants.{ORDER_LIMIT, WANTED_LIMIT}
use Rattle.orc_ids.specs.declared.lookup.Level.{Level}
use Rattle.orc_ids.specs.declared.lookup.Level.TheVariants as level
use Rattle.orc_ids.specs.declared.lookup.OrderItem.{OrderItem}
use Rattle.orc_ids.specs.declared.lookup.Wanted.{Wanted}
use Rattle.link_order.specs.Finds.{order_refusal}
use Rattle.session_model.specs.Answer.{lodged_reply, no_dylib, order_dylibs, refused_lookup}
use Rattle.session_model.specs.Change.{change_of, link_matches, matched}
use Rattle.session_model.specs.Lists.{or_else}
use Rattle.session_model.specs.Meaning.{Meaning}
use Rattle.session_model.specs.Plain.{Plain, UnitRow}
use Rattle.session_model.specs.declared.change.Change.TheVariants.{Nothing}
use Rattle.session_model.specs.declared.entry.Event.TheVariants as event
use Rattle.session_model.specs.declared.entry.Reply.{Reply}
use Rattle.session_model.specs.declared.entry.Reply.TheVariants as reply
use Rattle.session_parts.specs.Parts.{HaveDylibs}
use Rattle.session_replies.specs.Lookups.{is_refusal, link_refusal, IsFound, IsAsked, IsLinked}
use Rattle.session_replies.specs.Shown.{Sight, shown}
use Rattle.session_replies.specs.declared.looked.Looked.{Looked}
use Rattle.session_replies.specs.declared.looked.Looked.TheVariants.{Matched, Refused}
use Rattle.session_replies.proofs.Comparing.{matched_same, refused_same}
use Rattle.session_replies.proofs.Sights.{IsSightOf, no_dylib_shown, fail_shown, order_shown, home_shown}

-- Replies that are tried in order

first_given : (a b : Option Reply) (last r : Reply) → or_else a b ≡ Some r → unwrap_or a (unwrap_or b last) ≡ r
first_given None None last r e = absurd (none-some r e)
first_given None (Some q) last r e = same_Some q r e
first_given (Some q) b last r e = same_Some q r e

last_given : (a b : Option Reply) (last : Reply) → or_else a b ≡ None → unwrap_or a (unwrap_or b last) ≡ last
last_given None None last e = refl
last_given None (Some q) last e = absurd (none-some q (sym e))
last_given (Some q) b last e = absurd (none-some q (sym e))

-- A refusal changes nothing

ask_quiet : (m : Plain) (s : ℕ) (order : List OrderItem) (wanted : List Wanted) (lev : Level) (n : Option ℕ) (r : Reply) → is_refusal r ≡ true → change_of m s (event.Ask order wanted lev n) r ≡ Nothing
ask_quiet m s order wanted lev n (reply.NoDylib d) e = refl
ask_quiet m s order wanted lev n (reply.Offer g) e = refl
ask_quiet m s order wanted lev n (reply.InError i) e = refl
ask_quiet m s order wanted lev n (reply.Missing name) e = refl
ask_quiet m s order wanted lev n (reply.AliasCycle i) e = refl
ask_quiet m s order wanted lev n _ e = absurd (both_ways false refl e)

link_quiet : (m : Plain) (s : ℕ) (u : UnitId) (r : Reply) → is_refusal r ≡ true → change_of m s (event.Link u) r ≡ Nothing
link_quiet m s u (reply.NoDylib d) e = refl
link_quiet m s u (reply.Offer g) e = refl
link_quiet m s u (reply.InError i) e = refl
link_quiet m s u (reply.Missing name) e = refl
link_quiet m s u (reply.AliasCycle i) e = refl
link_quiet m s u _ e = absurd (both_ways false refl e)

-- An ask

asked_from : (m : Plain) (order : List OrderItem) (wanted : List Wanted) → length order ≤ ORDER_LIMIT → length wanted ≤ WANTED_LIMIT → (l : Looked) → IsFound (order_refusal m order wanted) (matched m order wanted) l → IsAsked m order wanted l
asked_from m order wanted few short (Matched found) f = (
  f.1,
  λ lev.
      last_given (no_dylib m (order_dylibs order)) (refused_lookup m order wanted) (lodged_reply m lev (matched m order wanted)) f.0
      ∙ ap (lodged_reply m lev) (sym f.1),
)
asked_from m order wanted few short (Refused r) f = λ lev n. record {
  answered = λ jmax past s. (few, short, sym (first_given (no_dylib m (order_dylibs order)) (refused_lookup m order wanted) (lodged_reply m lev (matched m order wanted)) r f.0));
  quiet = λ s. ask_quiet m s order wanted lev n r f.1;
}

-- an order of dylibs that are there is searched as in the session, and any other is refused as there
order_refused : {U : Type 0} (means : U → Meaning) (s : Sight U) (m : Plain) → IsSightOf means s m → (order : List OrderItem) (wanted : List Wanted) → order_refusal (shown means s) order wanted ≡ order_refusal m order wanted
order_refused means s m is order wanted = ap (λ o. or_else o (refused_lookup (shown means s) order wanted)) (no_dylib_shown means s m is (order_dylibs order)) ∙ split (no_dylib m (order_dylibs order)) refl
  where
    split : (o : Option Reply) → no_dylib m (order_dylibs order) ≡ o → or_else o (refused_lookup (shown means s) order wanted) ≡ or_else o (refused_lookup m order wanted)
    split None e = refused_same (shown means s) m order (order_shown means s m is order e) (fail_shown means s m is) wanted
    split (Some r) e = refl

order_found : {U : Type 0} (means : U → Meaning) (s : Sight U) (m : Plain) → IsSightOf means s m → (order : List OrderItem) (wanted : List Wanted) (l : Looked) →
    IsFound (order_refusal (shown means s) order wanted) (matched (shown means s) order wanted) l → IsFound (order_refusal m order wanted) (matched m order wanted) l
order_found means s m is order wanted (Matched found) f = let none = sym (order_refused means s m is order wanted) ∙ f.0 in
    (none, f.1 ∙ matched_same (shown means s) m order (order_shown means s m is order (or_else_parts (no_dylib m (order_dylibs order)) (refused_lookup m order wanted) none).0) wanted)
order_found means s m is order wanted (Refused r) f = (sym (order_refused means s m is order wanted) ∙ f.0, f.1)

pub asked_shown : {U : Type 0} (means : U → Meaning) (s : Sight U) (m : Plain) → IsSightOf means s m → (order : List OrderItem) (wanted : List Wanted) → length order ≤ ORDER_LIMIT → length wanted ≤ WANTED_LIMIT → (l : Looked) →
    IsFound (order_refusal (shown means s) order wanted) (matched (shown means s) order wanted) l → IsAsked m order wanted l
asked_shown means s m is order wanted few short l f = asked_from m order wanted few short l (order_found means s m is order wanted l f)

-- A link

pub found_shown : {U : Type 0} (means : U → Meaning) (s : Sight U) (m : Plain) → IsSightOf means s m → HaveDylibs m → (order : List OrderItem) (wanted : List Wanted) (l : Looked) →
    IsFound (refused_lookup (shown means s) order wanted) (matched (shown means s) order wanted) l → IsFound (refused_lookup m order wanted) (matched m order wanted) l
found_shown means s m is homes order wanted (Matched found) f = (
  sym (refused_same (shown means s) m order (home_shown means s m is homes order) (fail_shown means s m is) wanted) ∙ f.0,
  f.1 ∙ matched_same (shown means s) m order (home_shown means s m is homes order) wanted,
)
found_shown means s m is homes order wanted (Refused r) f = (sym (refused_same (shown means s) m order (home_shown means s m is homes order) (fail_shown means s m is) wanted) ∙ f.0, f.1)

pub linked_from : (m : Plain) (u : UnitId) (x : UnitRow) (l : Looked) → IsFound (link_refusal m u.0 x) (link_matches m x) l → IsLinked m u x l
linked_from m u x (Matched found) f = (f.1, ap (λ o. unwrap_or o (lodged_reply m level.Resolved (link_matches m x))) f.0 ∙ ap (lodged_reply m level.Resolved) (sym f.1))
linked_from m u x (Refused r) f = (ap (λ o. unwrap_or o (lodged_reply m level.Resolved (link_matches m x))) f.0, λ s. link_quiet m s u r f.1)

-- Two clauses on one result

pub both_ok : {X E : Type 0} (r : Result X E) (P Q : X → Type 0) → IfOk r P → IfOk r Q → IfOk r (λ x. P x × Q x)
both_ok (Ok x) P Q p q = (p, q)
both_ok (Err e) P Q p q = tt
