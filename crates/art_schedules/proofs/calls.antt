pub mod EffectLemmas
pub mod EventPlaceLemmas
pub mod FewLemmas
pub mod FrontLemmas
pub mod MomentLemmas
pub mod RunCallLemmas
pub mod ScriptLemmas
pub mod TraceLemmas
