-- A search's refusals are those of a lookup.
use Rattle.std.proofs.Common.{◌≡◌, Bool, true, false, not, ◌&&◌, map, List, [], ◌∷◌, Option, Some, None, option_map, refl, sym, ap, ap₂, ◌∙◌}
use Rattle.std.specs.Prelude.{is_none}
use Rattle.session_model.proofs.Choices.{first_mapped}
use Rattle.orc_ids.specs.declared.ids.DylibId.{DylibId}
use Rattle.orc_ids.specs.declared.ids.GenId.{GenId}
use Rattle.orc_ids.specs.declared.ids.NameId.{NameId}
use Rattle.orc_ids.specs.declared.ids.InstId.{InstId}
use Rattle.orc_ids.specs.declared.lookup.OrderItem.{OrderItem}
use Rattle.orc_ids.specs.declared.lookup.Wanted.{Wanted}
use Rattle.session_model.specs.Lists.{or_else, first_some, only_if}
use Rattle.session_model.specs.Plain.{Plain, failed_at, has_dylib}
use Rattle.session_model.specs.Match.{match_of}
use Rattle.session_model.specs.Answer.{no_dylib, order_dylibs, refused_lookup, offer_of, error_of, missing_of}
use Rattle.session_model.specs.Change.{matched, instance_of}
use Rattle.session_model.specs.declared.entry.Reply.{Reply}
use Rattle.session_model.specs.declared.entry.Reply.TheVariants as reply
use Rattle.session_model.specs.declared.rows.Match.{Match}
use Rattle.session_model.specs.declared.rows.Match.TheVariants.{Instance, Offered}
use Rattle.link_order.specs.Finds.{finds, generator_of, failed_of, offered_in, failed_in, missing_in, first_unknown}
use Rattle.link_order.specs.declared.search.Find.{Find}

-- a name with its match
abbrev found_for : Plain → List OrderItem → Wanted → Find
found_for m order w = record { wanted = w; found = match_of m order w.name.0 }

-- what is chosen of each element, made into a reply
chosen_reply : {X Y : Type 0} (f : X → Option Y) (g : X → Option Reply) (made : Y → Reply) → ((x : X) → g x ≡ option_map made (f x)) → (xs : List X) → first_some g xs ≡ option_map made (first_some f xs)
chosen_reply f g made same [] = refl
chosen_reply {X} {Y} f g made same (x ∷ xs) = ap₂ or_else (same x) (chosen_reply f g made same xs) ∙ split (f x) (first_some f xs)
  where
    split : (a b : Option Y) → or_else (option_map made a) (option_map made b) ≡ option_map made (or_else a b)
    split None b = refl
    split (Some y) b = refl

pub offers : (m : Plain) (order : List OrderItem) (wanted : List Wanted) → first_some (λ (w : Wanted). offer_of (match_of m order w.name.0)) wanted ≡ option_map reply.Offer (first_some offered_in (finds m order wanted))
offers m order wanted = chosen_reply (λ (w : Wanted). generator_of (match_of m order w.name.0)) (λ (w : Wanted). offer_of (match_of m order w.name.0)) reply.Offer (λ w. same (match_of m order w.name.0)) wanted ∙ ap (option_map reply.Offer) (sym (first_mapped offered_in (found_for m order) wanted))
  where
    same : (o : Option Match) → offer_of o ≡ option_map reply.Offer (generator_of o)
    same None = refl
    same (Some (Instance i)) = refl
    same (Some (Offered g)) = refl

pub errors : (m : Plain) (order : List OrderItem) (wanted : List Wanted) → first_some (λ (w : Wanted). error_of m (match_of m order w.name.0)) wanted ≡ option_map reply.InError (first_some (failed_in m) (finds m order wanted))
errors m order wanted = chosen_reply (λ (w : Wanted). failed_of m (match_of m order w.name.0)) (λ (w : Wanted). error_of m (match_of m order w.name.0)) reply.InError (λ w. same (match_of m order w.name.0)) wanted ∙ ap (option_map reply.InError) (sym (first_mapped (failed_in m) (found_for m order) wanted))
  where
    only : (b : Bool) (i : InstId) → only_if b (reply.InError i) ≡ option_map reply.InError (only_if b i)
    only true i = refl
    only false i = refl

    same : (o : Option Match) → error_of m o ≡ option_map reply.InError (failed_of m o)
    same None = refl
    same (Some (Instance i)) = only (failed_at m.rows i.0) i
    same (Some (Offered g)) = refl

pub missings : (m : Plain) (order : List OrderItem) (wanted : List Wanted) → first_some (missing_of m order) wanted ≡ option_map reply.Missing (first_some missing_in (finds m order wanted))
missings m order wanted = chosen_reply (λ (w : Wanted). missing_in (found_for m order w)) (missing_of m order) reply.Missing (λ w. only (not w.weak && is_none (match_of m order w.name.0)) w.name) wanted ∙ ap (option_map reply.Missing) (sym (first_mapped missing_in (found_for m order) wanted))
  where
    only : (b : Bool) (name : NameId) → only_if b (reply.Missing name) ≡ option_map reply.Missing (only_if b name)
    only true name = refl
    only false name = refl

-- a lookup's refusal, by the three searches
pub refusal_is : (m : Plain) (order : List OrderItem) (wanted : List Wanted) →
    refused_lookup m order wanted ≡ or_else (option_map reply.Offer (first_some offered_in (finds m order wanted))) (or_else (option_map reply.InError (first_some (failed_in m) (finds m order wanted))) (option_map reply.Missing (first_some missing_in (finds m order wanted))))
refusal_is m order wanted = ap₂ or_else (offers m order wanted) (ap₂ or_else (errors m order wanted) (missings m order wanted))

pub unknown_is : (m : Plain) (order : List OrderItem) → no_dylib m (order_dylibs order) ≡ option_map reply.NoDylib (first_unknown m order)
unknown_is m order = first_mapped (λ (d : DylibId). only_if (not (has_dylib m d.0)) (reply.NoDylib d)) (λ (item : OrderItem). item.dylib) order
    ∙ chosen_reply (λ (item : OrderItem). only_if (not (has_dylib m item.dylib.0)) item.dylib) (λ (item : OrderItem). only_if (not (has_dylib m item.dylib.0)) (reply.NoDylib item.dylib)) reply.NoDylib (λ item. only (not (has_dylib m item.dylib.0)) item.dylib) order
  where
    only : (b : Bool) (d : DylibId) → only_if b (reply.NoDylib d) ≡ option_map reply.NoDylib (only_if b d)
    only true d = refl
    only false d = refl

-- the instances of the matches
pub instances_are : (m : Plain) (order : List OrderItem) (wanted : List Wanted) → map (λ (f : Find). instance_of f.found) (finds m order wanted) ≡ matched m order wanted
instances_are m order [] = refl
instances_are m order (w ∷ ws) = ap (λ os. instance_of (match_of m order w.name.0) ∷ os) (instances_are m order ws)

-- The three searches, one after the other

none_only : {X Y : Type 0} (made : X → Y) (o : Option X) → o ≡ None → option_map made o ≡ None
none_only made o e = ap (option_map made) e

pub offer_refuses : (m : Plain) (order : List OrderItem) (wanted : List Wanted) (all : List Find) (g : GenId) → all ≡ finds m order wanted → first_some offered_in all ≡ Some g → refused_lookup m order wanted ≡ Some (reply.Offer g)
offer_refuses m order wanted all g is e = refusal_is m order wanted ∙ ap (λ o. or_else (option_map reply.Offer o) (or_else (option_map reply.InError (first_some (failed_in m) (finds m order wanted))) (option_map reply.Missing (first_some missing_in (finds m order wanted))))) (ap (first_some offered_in) (sym is) ∙ e)

unoffered : (m : Plain) (order : List OrderItem) (wanted : List Wanted) (all : List Find) → all ≡ finds m order wanted → first_some offered_in all ≡ None →
    refused_lookup m order wanted ≡ or_else (option_map reply.InError (first_some (failed_in m) all)) (option_map reply.Missing (first_some missing_in all))
unoffered m order wanted all is e = refusal_is m order wanted
    ∙ (ap (λ o. or_else (option_map reply.Offer o) (or_else (option_map reply.InError (first_some (failed_in m) (finds m order wanted))) (option_map reply.Missing (first_some missing_in (finds m order wanted))))) (ap (first_some offered_in) (sym is) ∙ e)
    ∙ ap (λ fs. or_else (option_map reply.InError (first_some (failed_in m) fs)) (option_map reply.Missing (first_some missing_in fs))) (sym is))

pub error_refuses : (m : Plain) (order : List OrderItem) (wanted : List Wanted) (all : List Find) (i : InstId) → all ≡ finds m order wanted → first_some offered_in all ≡ None → first_some (failed_in m) all ≡ Some i → refused_lookup m order wanted ≡ Some (reply.InError i)
error_refuses m order wanted all i is o e = unoffered m order wanted all is o ∙ ap (λ p. or_else (option_map reply.InError p) (option_map reply.Missing (first_some missing_in all))) e

pub missing_refuses : (m : Plain) (order : List OrderItem) (wanted : List Wanted) (all : List Find) (name : NameId) → all ≡ finds m order wanted → first_some offered_in all ≡ None → first_some (failed_in m) all ≡ None → first_some missing_in all ≡ Some name → refused_lookup m order wanted ≡ Some (reply.Missing name)
missing_refuses m order wanted all name is o f e = unoffered m order wanted all is o ∙ ap₂ (λ p q. or_else (option_map reply.InError p) (option_map reply.Missing q)) f e

pub none_refuses : (m : Plain) (order : List OrderItem) (wanted : List Wanted) (all : List Find) → all ≡ finds m order wanted → first_some offered_in all ≡ None → first_some (failed_in m) all ≡ None → first_some missing_in all ≡ None → refused_lookup m order wanted ≡ None
none_refuses m order wanted all is o f e = unoffered m order wanted all is o ∙ ap₂ (λ p q. or_else (option_map reply.InError p) (option_map reply.Missing q)) f e
