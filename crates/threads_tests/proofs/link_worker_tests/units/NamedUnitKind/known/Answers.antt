use Rattle.std.proofs.Common.{ℕ, List, refl, subst, sym, ◌∙◌, append-nil, arith, rules}
use Rattle.std.specs.Prelude.{IsPermutation}
use Rattle.std.proofs.lemmas.List.{length-replicate}
use Rattle.std.proofs.lemmas.List.Sorted.{IsPermutation-refl}
use Rattle.list_laws.proofs.Lists.{first_place}
use Rattle.orc_ids.specs.declared.ids.InstId.{InstId}
use Rattle.threads_tests.proofs.link_worker_tests.units.NamedUnitKind.known.Goals as goal

pub returns : goal.returns
returns c = record {
  differ = λ j k a b e f same. first_place _ a j e ∙ sym (first_place _ b k f);
  members = λ live base bound own fits. subst (λ (xs : List InstId). IsPermutation xs own) (sym (append-nil own)) (IsPermutation-refl own);
  deps = λ live base bound own fits. search rules;
  shape = λ live. ((omega arith), (4, refl));
  image = λ live base bound. length-replicate {A = ℕ} 48 7;
  alias = tt;
}
