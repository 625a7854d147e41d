-- What contracts see of the objects in memory.
use Rattle.std.specs.Prelude.{ℕ, ◌==◌, List, Bool, if◌then◌else◌}
use Rattle.std.specs.List.{list_any}
use Rattle.sig_io.specs.Causes.{next_number}

-- the numbers of the calls that are to fail, how many calls there were, and how many of them failed
pub record Plan : Type 0 where
  pub failing : List ℕ
  pub calls : ℕ
  pub faults : ℕ

-- no call yet
abbrev pub new_plan : List ℕ → Plan
new_plan failing = record { failing = failing; calls = 0; faults = 0 }

-- the number of the next call is listed
abbrev pub is_next_listed : Plan → Bool
is_next_listed plan = list_any (λ n. n == next_number plan.calls) plan.failing

-- after one more call, which failed where its number is listed
abbrev pub after_call : Plan → Plan
after_call plan = record plan { calls = next_number plan.calls; faults = if is_next_listed plan then next_number plan.faults else plan.faults }

-- a sink: all its bytes
pub record SinkMemory : Type 0 where
  pub content : List ℕ
  pub plan : Plan

-- files: each a name and its bytes
pub record FilesMemory : Type 0 where
  pub files : List (List ℕ × List ℕ)
  pub plan : Plan
