-- The units of what a lookup matched are asked for, one after the other.
use Rattle.std.proofs.Common.{◌≡◌, ℕ, ◌≤◌, true, List, [], ◌∷◌, length, Option, Some, None, refl, ap, sym, subst, ◌∙◌, arith}
use Rattle.std.proofs.lemmas.Bool.{both_ways, false_from_ne_true}
use Rattle.orc_ids.specs.declared.ids.InstId.{InstId}
use Rattle.session_model.specs.Meaning.{Meaning}
use Rattle.session_model.specs.Plain.{Plain, present_at}
use Rattle.session_model.specs.Change.{claimed, claimed_row, claimed_for, all_claimed}
use Rattle.session_laws.specs.Sound.{IsSound, AllMatched}
use Rattle.session_laws.proofs.Declared.{claim_keeps, claim_sound, mapped_length, mapped_some, test_parts, test_from}
use Rattle.session_model.specs.declared.rows.InstRow.{InstRow}
use Rattle.instances.specs.Graph.{Graph, Tells}
use Rattle.session_parts.specs.declared.parts.Parts.{Parts}
use Rattle.session_parts.specs.Parts.{AreParts}

-- so many are left, and with them the session comes where all of them lead
pub record Claiming {U N : Type 0} (means : U → Meaning) (m : Plain) (all rest : List (Option InstId)) (start now : Parts U N) : Type 0 where
  pub session : Plain
  pub parts : AreParts means now session
  pub sound : IsSound session
  pub here : AllMatched (λ i. present_at session.rows i ≡ true) rest
  pub same : all_claimed rest session ≡ all_claimed all m
  pub tells : Tells start.graph now.graph
  pub rows : length now.graph.rows ≡ length start.graph.rows
  pub only : now ≡ record start { graph = now.graph; units = now.units }

pub tells_same : (g : Graph) → Tells g g
tells_same g = record { stands = λ i b n. refl; kept = λ i e. e }

tells_both : (a b c : Graph) → length a.rows ≤ length b.rows → Tells a b → Tells b c → Tells a c
tells_both a b c more first second = record {
  stands = λ i l n. second.stands i (omega (arith, l, more)) n ∙ first.stands i l (false_from_ne_true _ (λ e. both_ways _ n (second.kept i e)));
  kept = λ i e. second.kept i (first.kept i e);
}

pub none_claimed : {U N : Type 0} (means : U → Meaning) (m : Plain) (all : List (Option InstId)) (start : Parts U N) → AreParts means start m → IsSound m → AllMatched (λ i. present_at m.rows i ≡ true) all → Claiming means m all all start start
none_claimed means m all start a s h = record { session = m; parts = a; sound = s; here = h; same = refl; tells = tells_same start.graph; rows = refl; only = refl }

pub one_unmatched : {U N : Type 0} (means : U → Meaning) (m : Plain) (all rest : List (Option InstId)) (start now : Parts U N) → Claiming means m all (None ∷ rest) start now → Claiming means m all rest start now
one_unmatched means m all rest start now c = record { session = c.session; parts = c.parts; sound = c.sound; here = c.here; same = c.same; tells = c.tells; rows = c.rows; only = c.only }

claimed_present : (u : ℕ) (m : Plain) (i : ℕ) → present_at m.rows i ≡ true → present_at (claimed u m).rows i ≡ true
claimed_present u m i e = let p = test_parts (λ (r : InstRow). r.present) m.rows i e in
    test_from (λ (r : InstRow). r.present) (claimed u m).rows i (claimed_row u p.0) (mapped_some (claimed_row u) m.rows i p.0 p.1) p.2

all_present : (i : InstId) (m : Plain) (os : List (Option InstId)) → present_at m.rows i.0 ≡ true → AllMatched (λ j. present_at m.rows j ≡ true) os → AllMatched (λ j. present_at (claimed_for i m).rows j ≡ true) os
all_present i m [] here h = h
all_present i m (None ∷ os) here h = all_present i m os here h
all_present i m (Some j ∷ os) here h = (claim_keeps (λ n. present_at n.rows j.0 ≡ true) (λ k r n q e p s. claimed_present r.unit.0 n j.0 q) i m here h.0, all_present i m os here h.1)

pub one_claimed : {U N : Type 0} (means : U → Meaning) (m : Plain) (all rest : List (Option InstId)) (i : InstId) (start now new : Parts U N) → Claiming means m all (Some i ∷ rest) start now →
    ((n : Plain) → AreParts means now n → IsSound n → present_at n.rows i.0 ≡ true → AreParts means new (claimed_for i n)) → Tells now.graph new.graph → new ≡ record now { graph = new.graph; units = new.units } → Claiming means m all rest start new
one_claimed means m all rest i start now new c claims tells only = record {
  session = claimed_for i c.session;
  parts = parts;
  sound = claim_keeps IsSound (λ k r n s e p u. claim_sound k r n s e p u) i c.session c.here.0 c.sound;
  here = all_present i c.session rest c.here.0 c.here.1;
  same = c.same;
  tells = tells_both start.graph now.graph new.graph (omega (arith, c.rows)) c.tells tells;
  rows = ap length parts.kept.rows ∙ (as_many ∙ (ap length (sym c.parts.kept.rows) ∙ c.rows));
  only = only ∙ ap (λ (p : Parts _ _). record p { graph = new.graph; units = new.units }) c.only;
}
  where
    parts : AreParts means new (claimed_for i c.session)
    parts = claims c.session c.parts c.sound c.here.0

    as_many : length (claimed_for i c.session).rows ≡ length c.session.rows
    as_many = claim_keeps (λ n. length n.rows ≡ length c.session.rows) (λ k r n q e p u. mapped_length (claimed_row r.unit.0) n.rows ∙ q) i c.session c.here.0 refl

pub all_done : {U N : Type 0} (means : U → Meaning) (m : Plain) (all rest : List (Option InstId)) (start now : Parts U N) → rest ≡ [] → Claiming means m all rest start now → AreParts means now (all_claimed all m)
all_done means m all rest start now e c = subst (AreParts means now) (ap (λ os. all_claimed os c.session) (sym e) ∙ c.same) c.parts
