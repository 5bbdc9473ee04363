-- Texts that differ have numbers that differ, so the names of an `absolute` line do.
use Rattle.std.proofs.Common.{◌≡◌, ◌≢◌, ℕ, ◌<◌, ◌≤◌, true, List, [], ◌∷◌, ◌++◌, not, length, get_or, map, All, AllPairs, sym, ◌∙◌, ap, inl, inr, arith}
use Rattle.std.specs.List.{position_or_len}
use Rattle.std.specs.Str.{bytes_eq}
use Rattle.std.specs.Cmp.Lexicographic.{nat_list_eq_equiv, same_text}
use Rattle.std.proofs.lemmas.Bool.{cases_Bool, and_parts, not-true}
use Rattle.std.proofs.lemmas.List.{length_push}
use Rattle.std.proofs.lemmas.List.Sums.{passes_at_first}
use Rattle.std.proofs.lemmas.List.Elements.{All-nil, All-cons, All-head, All-tail, All-map}
use Rattle.std.proofs.lemmas.List.Kept.{AllPairs-cons}
use Rattle.orc_ids.specs.declared.ids.NameId.{NameId}
use Rattle.session_script.specs.Forms.{symbol_part}
use Rattle.session_script.specs.Known.{Known}
use Rattle.session_script.specs.Setup.{are_new, defined_in}
use Rattle.session_script.specs.Texts.{has, number_of, mentioned, all_mentioned}
use Rattle.session_script.proofs.TextNumbers.{within, number_there, any_stays, any_last, has_mentioned, has_itself}

pub number_within : (t : List ℕ) (texts : List (List ℕ)) → has t texts ≡ true → number_of t texts < length texts
number_within t texts there = omega (arith, number_there t texts there, within (bytes_eq t) texts there)

-- the first place of a text has its bytes
text_there : (t : List ℕ) (texts : List (List ℕ)) → has t texts ≡ true → t ≡ get_or texts (number_of t texts) []
text_there t texts there =
    let found : bytes_eq t (get_or texts (position_or_len (bytes_eq t) texts) []) ≡ true = passes_at_first (bytes_eq t) texts [] (within (bytes_eq t) texts there) in
    same_text t _ (sym found) ∙ ap (λ n. get_or texts n []) (sym (number_there t texts there))

pub same_number : (t u : List ℕ) (texts : List (List ℕ)) → has t texts ≡ true → has u texts ≡ true → number_of t texts ≡ number_of u texts → t ≡ u
same_number t u texts t_there u_there same = text_there t texts t_there ∙ ap (λ n. get_or texts n []) same ∙ sym (text_there u texts u_there)

pub grown : (t : List ℕ) (texts : List (List ℕ)) → length texts ≤ length (mentioned t texts)
grown t texts = elim (cases_Bool (has t texts)) [
  | inl known ↦ rw known (omega arith)
  | inr new ↦ rw new (omega (arith, length_push texts t))
]

pub has_all_mentioned : (t : List ℕ) (more texts : List (List ℕ)) → has t texts ≡ true → has t (all_mentioned more texts) ≡ true
has_all_mentioned t [] texts there = there
has_all_mentioned t (u ∷ more) texts there = has_all_mentioned t more (mentioned u texts) (has_mentioned t u texts there)

-- each symbol is in the table once all are mentioned
symbols_there : (ds texts : List (List ℕ)) → All (λ d. has (symbol_part d) (all_mentioned (map symbol_part ds) texts) ≡ true) ds
symbols_there [] texts = All-nil (λ d. has (symbol_part d) texts ≡ true)
symbols_there (d ∷ ds) texts =
    let table = mentioned (symbol_part d) texts in
    All-cons (λ e. has (symbol_part e) (all_mentioned (map symbol_part ds) table) ≡ true) d ds
    (has_all_mentioned (symbol_part d) (map symbol_part ds) table (has_itself (symbol_part d) texts))
    (symbols_there ds table)

-- no later symbol is one that was seen
not_seen : (t : List ℕ) (seen ds : List (List ℕ)) → has t seen ≡ true → are_new seen ds ≡ true → All (λ d. t ≢ symbol_part d) ds
not_seen t seen [] there new = All-nil (λ d. t ≢ symbol_part d)
not_seen t seen (d ∷ ds) there new =
    let parts = and_parts (not (has (symbol_part d) seen)) (are_new (seen ++ symbol_part d ∷ []) ds) new in
    All-cons (λ e. t ≢ symbol_part e) d ds
    (λ same. cc (not-true (has (symbol_part d) seen) parts.0, ap (λ x. has x seen) same, there))
    (not_seen t (seen ++ symbol_part d ∷ []) ds (any_stays (bytes_eq t) seen (symbol_part d) there) parts.1)

-- the numbers of other symbols are others
others_apart : (k : Known) (t : List ℕ) (ds : List (List ℕ)) → has t k.names ≡ true → All (λ d. has (symbol_part d) k.names ≡ true) ds → All (λ d. t ≢ symbol_part d) ds → All (λ d. number_of t k.names ≢ number_of (symbol_part d) k.names) ds
others_apart k t ds there all differ i d less same = differ i d less (same_number t (symbol_part (get_or ds i d)) k.names there (all i d less) same)

pub names_differ : (k : Known) (seen ds : List (List ℕ)) → are_new seen ds ≡ true → All (λ d. has (symbol_part d) k.names ≡ true) ds → AllPairs (λ (p q : NameId × ℕ). p.0 ≢ q.0) (map (defined_in k) ds)
names_differ k seen [] new all = λ i j d less below. absurd (omega arith)
names_differ k seen (d ∷ ds) new all =
    let parts = and_parts (not (has (symbol_part d) seen)) (are_new (seen ++ symbol_part d ∷ []) ds) new in
    let later = not_seen (symbol_part d) (seen ++ symbol_part d ∷ []) ds (any_last (bytes_eq (symbol_part d)) seen (symbol_part d) (nat_list_eq_equiv.refl (symbol_part d))) parts.1 in
    let rest = All-tail (λ e. has (symbol_part e) k.names ≡ true) d ds all in
    let apart = others_apart k (symbol_part d) ds (All-head (λ e. has (symbol_part e) k.names ≡ true) d ds all) rest later in
    AllPairs-cons (λ (p q : NameId × ℕ). p.0 ≢ q.0) (defined_in k d) (map (defined_in k) ds)
    (All-map (λ (q : NameId × ℕ). (defined_in k d).0 ≢ q.0) (defined_in k) ds (λ i e less same. apart i e less (ap (λ (n : NameId). n.0) same)))
    (names_differ k (seen ++ symbol_part d ∷ []) ds parts.1 rest)

pub defined_differ : (k : Known) (ds texts : List (List ℕ)) → k.names ≡ all_mentioned (map symbol_part ds) texts → are_new [] ds ≡ true → AllPairs (λ (p q : NameId × ℕ). p.0 ≢ q.0) (map (defined_in k) ds)
defined_differ k ds texts table new = names_differ k [] ds new (rw table (symbols_there ds texts))
