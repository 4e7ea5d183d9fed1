-- Kept steps as plain data (this project's own).
use Rattle.std.specs.Prelude.{◌≡◌, ◌+◌, ◌≤◌, length}
use Rattle.circular_buffer.specs.Buffer.{Buffer}
use Rattle.vtd_history.specs.Steps.{PlainStep, staged, discarded, applied, patched}
use Rattle.vtd_history.specs.declared.steps.Step.{Step}
use Rattle.vtd_history.specs.declared.steps.Step.TheVariants as step

abbrev pub plain : Step → PlainStep
plain (step.Staged count taken) = staged count taken
plain (step.Discarded edits) = discarded edits
plain (step.Applied document edits) = applied document.bytes edits
plain (step.Patched segment) = patched segment.start segment.end segment.bytes

-- the rings hold 32 steps each at most, and both together no more
abbrev pub HasDepth : Buffer Step → Buffer Step → Type 0
HasDepth done undone = (done.capacity ≡ 32) × (undone.capacity ≡ 32) × (length done.items + length undone.items ≤ 32)
