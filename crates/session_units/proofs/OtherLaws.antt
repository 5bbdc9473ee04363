-- The units of absolute symbols and of aliases keep the laws of units.
use Rattle.std.proofs.Common.{◌≡◌, ℕ, zero, suc, ◌<◌, List, [], ◌∷◌, length, map, get_or, Some, refl, sym, ap, subst, ◌∙◌, inl, inr, arith}
use Rattle.std.specs.Prelude.{slice_get, IsPermutation, Contains}
use Rattle.std.specs.List.{All}
use Rattle.std.proofs.lemmas.Bool.{cases_order}
use Rattle.std.proofs.lemmas.List.{append-nil}
use Rattle.std.proofs.lemmas.List.Elements.{All-nil, All-contains_itself}
use Rattle.std.proofs.lemmas.List.Sorted.{IsPermutation-refl}
use Rattle.std.proofs.lemmas.Option.{same_Some}
use Rattle.orc_ids.specs.declared.flags.SymFlags.{SymFlags}
use Rattle.orc_ids.specs.declared.ids.DylibId.{DylibId}
use Rattle.orc_ids.specs.declared.ids.InstId.{InstId}
use Rattle.orc_ids.specs.declared.ids.NameId.{NameId}
use Rattle.orc_ids.specs.declared.ids.UnitName.{UnitName}
use Rattle.session_model.specs.Meaning.{IsLawful, bound_instances}
use Rattle.session_units.specs.Names.{NamesDiffer}
use Rattle.session_units.specs.Others.{absolute_flags, absolutes_meaning, alias_meaning}
use Rattle.session_units.proofs.Sharing.{group_members, group_deps}

abbrev none : NameId × ℕ
none = (record { 0 = 0 }, 0)

offered_at : (symbols : List (NameId × ℕ)) (k : ℕ) (a : NameId × SymFlags) → slice_get (map (λ (p : NameId × ℕ). (p.0, absolute_flags)) symbols) k ≡ Some a → (k < length symbols) × (a.0 ≡ (get_or symbols k none).0)
offered_at [] k a e = absurd cc
offered_at (x ∷ xs) zero a e = (omega arith, ap (λ (p : NameId × SymFlags). p.0) (sym (same_Some (x.0, absolute_flags) a e)))
offered_at (x ∷ xs) (suc k) a e = let rest = offered_at xs k a e in (omega (arith, rest.0), rest.1)

names_differ : (symbols : List (NameId × ℕ)) → NamesDiffer symbols → (j k : ℕ) (a b : NameId × SymFlags) → slice_get (map (λ (p : NameId × ℕ). (p.0, absolute_flags)) symbols) j ≡ Some a → slice_get (map (λ (p : NameId × ℕ). (p.0, absolute_flags)) symbols) k ≡ Some b → a.0 ≡ b.0 → j ≡ k
names_differ symbols h j k a b at_j at_k same =
    let first = offered_at symbols j a at_j in
    let second = offered_at symbols k b at_k in
    let names : (get_or symbols j none).0 ≡ (get_or symbols k none).0 = sym first.1 ∙ same ∙ second.1 in
    elim (cases_order j k) [
      | inl e ↦ e
      | inr other ↦ elim other [
        | inl below ↦ absurd (h j k none below second.0 names)
        | inr above ↦ absurd (h k j none above first.0 (sym names))
      ]
    ]

pub absolutes_lawful : (name : UnitName) (symbols : List (NameId × ℕ)) → NamesDiffer symbols → IsLawful (absolutes_meaning name symbols)
absolutes_lawful name symbols differ = record {
  differ = names_differ symbols differ;
  members = λ live base bound own fits. subst (λ (is : List InstId). IsPermutation is own) (sym (group_members own [])) (IsPermutation-refl own);
  deps = λ live base bound own fits. group_deps (Contains (bound_instances bound)) own [] (All-nil (Contains (bound_instances bound)));
  shape = λ live. tt;
  image = λ live base bound. refl;
  alias = tt;
}

one_offer : (x : NameId × SymFlags) (j : ℕ) (a : NameId × SymFlags) → slice_get (x ∷ []) j ≡ Some a → j ≡ 0
one_offer x zero a e = refl
one_offer x (suc j) a e = absurd cc

pub alias_lawful : (name : UnitName) (alias : NameId) (source : DylibId) (target : NameId) → IsLawful (alias_meaning name alias source target)
alias_lawful name alias source target = record {
  differ = λ j k a b at_j at_k same. one_offer (alias, absolute_flags) j a at_j ∙ sym (one_offer (alias, absolute_flags) k b at_k);
  members = λ live base bound own fits. subst (λ (is : List InstId). IsPermutation is own) (sym (append-nil own)) (IsPermutation-refl own);
  deps = λ live base bound own fits. subst (All (Contains (bound_instances bound))) (sym (append-nil (bound_instances bound))) (All-contains_itself (bound_instances bound));
  shape = λ live. tt;
  image = λ live base bound. refl;
  alias = record {
    name = alias;
    offers = refl;
    target = target;
    externals = λ live. refl;
    shape = λ live. refl;
    address = λ base. refl;
    refusal = λ live base bound. refl;
    groups = λ live base bound own. refl;
  };
}
