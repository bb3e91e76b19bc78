mod KeptLemmas
mod LinkLemmas
mod MemberLemmas
mod PlaceLemmas
mod ShallowMembers
