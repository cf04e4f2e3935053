-- `builder::last`: what the columns that are left take off gives the answer.
use Rattle.std.proofs.Common.{◌≡◌, ◌+◌, ◌-◌}
use Rattle.rules.specs.Construction.{less_all}
use Rattle.builder.specs.Building.{vectors}
use Rattle.builder.proofs.last.Given as goal

abbrev pub invariant-loop-c : goal.invariant-loop-c
invariant-loop-c l = less_all (vectors l.p) l.c (l.base + l.m - l.c) l.v ≡ less_all (vectors l.p) l.base l.m l.initial.v
