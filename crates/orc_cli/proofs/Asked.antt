-- Which promise a call keeps, by what its words ask for.
use Rattle.std.proofs.Common.{◌≡◌, ℕ, List, Result, Ok, Err, subst}
use Rattle.command_line.specs.Words.{Asked, Assembly, Request, Run, Session}
use Rattle.command_line.specs.declared.error.UsageKind.{UsageKind}
use Rattle.orc_cli.specs.Asking.{AsksRun}

-- words that ask for a run ask for this one
pub asked_run : (words : Result Asked UsageKind) (run : Request) (asked : Result Request UsageKind) → words ≡ Ok (Run run) → AsksRun words asked → asked ≡ Ok run
asked_run words run asked is asks = subst (λ w. AsksRun w asked) is asks

-- words that don't fit are refused for this reason
pub asked_nothing : (words : Result Asked UsageKind) (kind : UsageKind) (asked : Result Request UsageKind) → words ≡ Err kind → AsksRun words asked → asked ≡ Err kind
asked_nothing words kind asked is asks = subst (λ w. AsksRun w asked) is asks

-- words that ask for a session ask for no run
pub never_run : {P : Type 0} (words : Result Asked UsageKind) (workers : ℕ) (asked : Result Request UsageKind) → words ≡ Ok (Session workers) → AsksRun words asked → P
never_run words workers asked is asks = absurd (subst (λ w. AsksRun w asked) is asks)

pub never_session : {P : Type 0} (words : Result Asked UsageKind) (run : Request) (workers : ℕ) → words ≡ Ok (Run run) → words ≡ Ok (Session workers) → P
never_session words run workers is isnt = absurd (cc)

pub never_asked : {P : Type 0} (words : Result Asked UsageKind) (kind : UsageKind) (workers : ℕ) → words ≡ Err kind → words ≡ Ok (Session workers) → P
never_asked words kind workers is isnt = absurd (cc)

pub same_workers : (words : Result Asked UsageKind) (one other : ℕ) → words ≡ Ok (Session one) → words ≡ Ok (Session other) → one ≡ other
same_workers words one other p q = cc

-- words that ask for an assembly ask for nothing else
pub never_run_of : {P : Type 0} (words : Result Asked UsageKind) (file : List ℕ) (asked : Result Request UsageKind) → words ≡ Ok (Assembly file) → AsksRun words asked → P
never_run_of words file asked is asks = absurd (subst (λ w. AsksRun w asked) is asks)

pub same_file : (words : Result Asked UsageKind) (one other : List ℕ) → words ≡ Ok (Assembly one) → words ≡ Ok (Assembly other) → one ≡ other
same_file words one other p q = cc
