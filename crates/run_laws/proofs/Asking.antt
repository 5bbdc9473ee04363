-- What an ask is answered while no generator is there and nothing failed.
use Rattle.std.proofs.Common.{◌≡◌, ℕ, Bool, true, false, List, [], ◌∷◌, length, ◌⊎◌, inl, inr, refl, sym, ap, ◌∙◌, subst, Option, Some, None, option_map, unwrap_or}
use Rattle.std.specs.Prelude.{is_none, not}
use Rattle.std.specs.Bool.{if◌then◌else◌}
use Rattle.std.specs.Option.{option_map_or}
use Rattle.std.proofs.lemmas.Bool.{both_ways}
use Rattle.orc_ids.specs.declared.ids.InstId.{InstId}
use Rattle.orc_ids.specs.declared.ids.NameId.{NameId}
use Rattle.orc_ids.specs.declared.lookup.Level.TheVariants.{Ready}
use Rattle.orc_ids.specs.declared.lookup.OrderItem.{OrderItem}
use Rattle.session_model.specs.Answer.{answer_ask, answer_lookup, error_of, lodged_reply, offer_of}
use Rattle.session_model.specs.Change.{instance_of, matched}
use Rattle.session_model.specs.Lists.{only_if, or_else}
use Rattle.session_model.specs.Match.{match_in, match_of, offered_by, row_of, sees}
use Rattle.session_model.specs.Plain.{Plain, GenRow, failed_at}
use Rattle.session_model.specs.Query.{all_at}
use Rattle.session_model.specs.declared.entry.Reply.{Reply}
use Rattle.session_model.specs.declared.entry.Reply.TheVariants as reply
use Rattle.session_model.specs.declared.rows.Match.{Match}
use Rattle.session_model.specs.declared.rows.Match.TheVariants.{Instance, Offered}
use Rattle.session_model.specs.declared.rows.Row.{Row}
use Rattle.run_laws.specs.Runs.{lookup_of}
use Rattle.run_laws.proofs.Ready.{IsReady}

-- a generator offers it
abbrev pub is_offered : Option Match → Bool
is_offered (Some (Offered g)) = true
is_offered _ = false

-- without generators nothing is offered
unoffered_in : (m : Plain) (name : ℕ) (item : OrderItem) → m.generators ≡ [] → is_offered (match_in m name item) ≡ false
unoffered_in m name item none = subst (λ (gs : List GenRow). is_offered (or_else (option_map_or (λ (r : Row). only_if (sees item.scope r.flags) (Instance r.inst)) (row_of m.rows item.dylib.0 name) None) (option_map Offered (offered_by gs item.dylib.0 name item.scope))) ≡ false) (sym none) (by_row (row_of m.rows item.dylib.0 name))
  where
    by_test : (b : Bool) (i : InstId) → is_offered (or_else (only_if b (Instance i)) None) ≡ false
    by_test true i = refl
    by_test false i = refl

    by_row : (o : Option Row) → is_offered (or_else (option_map_or (λ (r : Row). only_if (sees item.scope r.flags) (Instance r.inst)) o None) None) ≡ false
    by_row None = refl
    by_row (Some r) = by_test (sees item.scope r.flags) r.inst

pub unoffered : (m : Plain) (order : List OrderItem) (name : ℕ) → m.generators ≡ [] → is_offered (match_of m order name) ≡ false
unoffered m [] name none = refl
unoffered m (item ∷ items) name none = split (match_in m name item) (unoffered_in m name item none) (unoffered m items name none)
  where
    split : (o : Option Match) → is_offered o ≡ false → is_offered (match_of m items name) ≡ false → is_offered (or_else o (match_of m items name)) ≡ false
    split None a b = b
    split (Some x) a b = a

-- The name has no match; or it matched one instance, for which a query is lodged.
pub data AnswersLookup (m : Plain) (entry : NameId) (r : Reply) : Type 0 where
  Nowhere : r ≡ reply.Missing entry → AnswersLookup m entry r
  Somewhere : (i : InstId) → matched m (lookup_of entry).order (lookup_of entry).wanted ≡ Some i ∷ [] →
      (r ≡ reply.Done (record { 0 = length m.queries })) ⊎ (r ≡ reply.Pending (record { 0 = length m.queries })) → AnswersLookup m entry r

-- the reply by the match of the name
abbrev reply_by : Plain → NameId → Option Match → Reply
reply_by m entry o = unwrap_or
    (or_else (or_else (offer_of o) None) (or_else (or_else (error_of m o) None) (or_else (only_if (is_none o) (reply.Missing entry)) None)))
    (lodged_reply m Ready (instance_of o ∷ []))

answers_by : (m : Plain) (entry : NameId) (o : Option Match) (r : Reply) → ((i : ℕ) → failed_at m.rows i ≡ false) → is_offered o ≡ false → matched m (lookup_of entry).order (lookup_of entry).wanted ≡ instance_of o ∷ [] → r ≡ reply_by m entry o → AnswersLookup m entry r
answers_by m entry None r unfailed none found e = AnswersLookup.Nowhere e
answers_by m entry (Some (Offered g)) r unfailed none found e = absurd (both_ways true none refl)
answers_by m entry (Some (Instance i)) r unfailed none found e = AnswersLookup.Somewhere i found (lodged (all_at m.rows Ready (Some i ∷ [])) (e ∙ ap (λ b. unwrap_or (or_else None (or_else (or_else (only_if b (reply.InError i)) None) (or_else (only_if false (reply.Missing entry)) None))) (lodged_reply m Ready (Some i ∷ []))) (unfailed i.0)))
  where
    lodged : (b : Bool) → r ≡ (if b then reply.Done (record { 0 = length m.queries }) else reply.Pending (record { 0 = length m.queries })) → (r ≡ reply.Done (record { 0 = length m.queries })) ⊎ (r ≡ reply.Pending (record { 0 = length m.queries }))
    lodged true f = inl f
    lodged false f = inr f

-- the lookup of a run, after its set-up
pub lookup_answers : (count : ℕ) (m : Plain) (entry : NameId) (r : Reply) → IsReady count m → r ≡ answer_ask m (lookup_of entry).order (lookup_of entry).wanted Ready → AnswersLookup m entry r
lookup_answers count m entry r ready e = answers_by m entry (match_of m (lookup_of entry).order entry.0) r ready.unfailed (unoffered m (lookup_of entry).order entry.0 ready.generators) refl
    (e ∙ ap (λ b. unwrap_or (or_else (only_if (not b) (reply.NoDylib (record { 0 = 0 }))) None) (answer_lookup m (lookup_of entry).order (lookup_of entry).wanted Ready)) ready.dylib)
